use Rattle.std.proofs.Common.{◌≡◌, ◌∙◌, ◌+◌, ◌-◌, ◌≤◌, ◌^◌, Result, Ok, Err, IfOk, ap, length, refl, subst, sym, arith}
use Rattle.std.specs.Prelude.{slice_get}
use Rattle.std.proofs.lemmas.Option.{slice_get_read}
use Rattle.kept_layout.specs.Blocks.{padding_of, footprint_of}
use Rattle.kept_layout.specs.Moves.{calm_starts, starts_of, IsWalked}
use Rattle.kept_layout.proofs.MovingPlaces.{footprint_at}
use Rattle.kept_layout.proofs.ShrinkingPlaces.{address_is}
use Rattle.kept_layout.proofs.ShrinkingWalk.{start_in_code}
use Rattle.kept_layout.proofs.Walls.{bounds, few_low, walked_to_end, walked_to_wall}
use Rattle.kept_layout.proofs.kept.KeptLayout.wall_address.Goals as goal

pub overflow_sub-result : goal.overflow_sub-result
overflow_sub-result c =
    let k = c.args.self.now in
    let from = (bounds k c.requires.laid).from in
    let is = c.requires.is in
    few_low k c.args.bytes c.args.wall c.address-start.result c.requires.laid c.requires.few (omega arith) (address_is k c.args.wall c.address-start.result c.requires.laid (omega arith) c.address-start.ensures)

pub returns-then-wall-len : goal.returns-then-wall-len
returns-then-wall-len c =
    let k = c.args.self.now in
    let is = c.requires.is in
    let at = address_is k c.args.wall c.address-start.result c.requires.laid (omega arith) c.address-start.ensures in
    let walked = walked_to_wall k c.args.bytes c.address-start.result c.requires.laid c.requires.even c.requires.few (omega arith) (ap (slice_get (starts_of k)) (sym is) ∙ at) in
    subst (IsWalked k c.args.bytes (calm_starts k c.args.bytes) _) (sym is) walked

pub overflow_sub-here : goal.overflow_sub-here
overflow_sub-here c =
    let k = c.args.self.now in
    let within = c.requires.laid.here in
    let is = slice_get_read k.blocks.items (length k.blocks.items) k.here c.index-here.result.now refl within c.index-here.ensures in
    c.requires.few (footprint_of c.index-here.result.now) (footprint_at k.blocks.items k.here c.index-here.result.now is)

pub behind-requires : goal.behind-requires
behind-requires c =
    let k = c.args.self.now in
    let within = c.requires.laid.here in
    let is = slice_get_read k.blocks.items (length k.blocks.items) k.here c.index-here.result.now refl within c.index-here.ensures in
    start_in_code k k.here c.index-here.result.now c.address-at.result c.requires.laid is (address_is k k.here c.address-at.result c.requires.laid within c.address-at.ensures)

both : {T E : Type 0} (P Q R : T → Type 0) (r : Result T E) → ((x : T) → P x → Q x → R x) → IfOk r P → IfOk r Q → IfOk r R
both P Q R (Ok x) f p q = f x p q
both P Q R (Err e) f p q = tt

pub returns : goal.returns
returns c =
    let k = c.args.self.now in
    let s = c.index-here.result.now in
    let within = c.requires.laid.here in
    let here = slice_get_read k.blocks.items (length k.blocks.items) k.here s refl within c.index-here.ensures in
    let at = address_is k k.here c.address-at.result c.requires.laid within c.address-at.ensures in
    let is = c.requires.is in
    both (λ x. x ≡ c.address-at.result + (padding_of s.head c.address-at.result + (s.bytes - c.args.bytes))) (λ x. x ≤ 2 ^ 29) (λ x. IsWalked k c.args.bytes (calm_starts k c.args.bytes) x c.args.wall) c.behind.result
    (λ x e h. subst (IsWalked k c.args.bytes (calm_starts k c.args.bytes) x) (sym is) (walked_to_end k c.args.bytes s c.address-at.result x c.requires.laid (omega arith) here at e h)) c.behind.ensures.value c.behind.ensures.in_code
