use Rattle.std.proofs.Common.{◌≡◌, ◌∙◌, ◌||◌, ap, refl, List, [], ◌∷◌, map, Bool}
use Rattle.std.specs.List.{list_any}
use Rattle.ascii_scan.specs.Names.{is_spelled}
use Rattle.ascii_scan.proofs.naming.is_some_register.Goals as goal

list_any-map : {X Y : Type 0} (p : Y → Bool) (f : X → Y) (xs : List X) → list_any (λ x. p (f x)) xs ≡ list_any p (map f xs)
list_any-map p f [] = refl
list_any-map p f (x ∷ xs) = ap (λ b. p (f x) || b) (list_any-map p f xs)

pub returns : goal.returns
returns c = c.is_among.ensures ∙ list_any-map (is_spelled c.args.word.now) (λ name. name.now) c.registers.result.now ∙ ap (list_any (is_spelled c.args.word.now)) c.registers.ensures
