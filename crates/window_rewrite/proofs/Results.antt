-- What follows of the result of a call that is handed on.
use Rattle.std.proofs.Common.{Option, None, Some, Result, Ok, Err}
use Rattle.std.specs.Option.{IfNone, OnSome}
use Rattle.std.specs.Result.{IfOk, OnOk}

pub if_none : {A P Q : Type 0} (o : Option A) → IfNone o P → (P → Q) → IfNone o Q
if_none None h f = f h
if_none (Some x) h f = tt

pub both_ok : {A E S : Type 0} (r : Result A E) (P Q : A → Type 0) → IfOk r P → OnOk r S → ((x : A) → P x → S → Q x) → IfOk r Q
both_ok (Ok x) P Q p s f = f x p s
both_ok (Err e) P Q p s f = tt

-- what holds of each value holds of a result, and of what it may hold
pub any_ok : {A E : Type 0} (r : Result A E) (Q : A → Type 0) → ((x : A) → Q x) → IfOk r Q
any_ok (Ok x) Q h = h x
any_ok (Err e) Q h = tt

pub any_some : {A P : Type 0} (o : Option A) → P → OnSome o P
any_some None p = tt
any_some (Some x) p = p
