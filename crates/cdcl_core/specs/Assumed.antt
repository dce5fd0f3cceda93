-- The states of the trail after literals were assumed false, without and with propagation.
use Rattle.std.specs.Prelude.{ℕ, ◌≡◌, ◌<◌, List, ◌++◌, Bool, true, false, All, Contains, Option, None, length, replicate, take}
use Rattle.clause_model.specs.Clauses.{negated, IsConsistent, AllFalse}
use Rattle.clause_arena.specs.Contents.{Content}
use Rattle.unit_propagation.specs.Watching.{IsLater, Rule}
use Rattle.cdcl_core.specs.Implied.{clauses_of, IsRefutable, IsJustified, Level, BeginsAtRoot}

-- some consistent assignment of literals below the size contains a and makes the literals false
pub record CanFalsify (size : ℕ) (a literals : List ℕ) : Type 0 where
  pub under : List ℕ
  pub consistent : IsConsistent under
  pub bounded : All (λ l. l < size) under
  pub contains : All (Contains under) a
  pub falsifies : AllFalse under literals

-- contraries of the literals were added without a reason, and each literal is false
pub record IsAssumed (literals : List ℕ) (before : List (Option ℕ)) (a : List ℕ) (reasons : List (Option ℕ)) (b : List ℕ) : Type 0 where
  pub added : List ℕ
  pub trail : b ≡ a ++ added
  pub unexplained : reasons ≡ before ++ replicate (length added) None
  pub within : All (λ t. Contains literals (negated t)) added
  pub falsified : AllFalse b literals

-- after trail a the literals were made false and propagated to the end; or it was refuted that they are false together with those denied before
pub record IsDenied (literals : List ℕ) (earlier : Content) (a : List ℕ) (before : List (Option ℕ)) (later : Content) (b : List ℕ) (reasons : List (Option ℕ)) (is_refuted : Bool) : Type 0 where
  pub prefix : take (length a) b ≡ a
  pub reasons_kept : take (length a) reasons ≡ before
  pub watches : IsLater earlier a before later a before
  pub root : (level : Level) → BeginsAtRoot level earlier before a → BeginsAtRoot level later reasons b
  pub justified : (denied : List ℕ) → IsJustified earlier denied before a → IsJustified later (denied ++ literals) reasons b
  pub settled : is_refuted ≡ false → Rule later b × AllFalse b literals
  pub refuted : is_refuted ≡ true → (denied : List ℕ) → IsJustified earlier denied before a → IsRefutable (clauses_of earlier) (denied ++ literals)
