use Rattle.std.proofs.Common.{◌≡◌, ◌<◌, ◌≤◌, List, [], ◌∷◌, length, get_or, map, arith, ℕ, zero, suc}
use Rattle.std.specs.Prelude.{All, decimal}
use Rattle.std.proofs.lemmas.List.{get_or-map, length-map}
use Rattle.std.proofs.lemmas.List.Elements.{All-head, All-tail}
use Rattle.rule_table.proofs.numbers.bytes_of.Goals as goal

-- if one word isn't the numeral of an allowed number, the words aren't those of a list of allowed numbers
read_stops : {X : Type 0} (P : X → Type 0) (f : X → List ℕ) (xs : List X) (i : ℕ) (w : List ℕ) → All P xs → i < length (map f xs) → get_or (map f xs) i w ≡ w → ((x : X) → P x → f x ≡ w → ⊥) → ⊥
read_stops P f [] i w h b e n = omega arith
read_stops P f (x ∷ xs) zero w h b e n = n x (All-head P x xs h) e
read_stops P f (x ∷ xs) (suc i) w h b e n = read_stops P f xs i w (All-tail P x xs h) (omega arith) e n

stops_reading : {X : Type 0} (P : X → Type 0) (f : X → List ℕ) (words : List (List ℕ)) (i : ℕ) (w : List ℕ) → i < length words → get_or words i w ≡ w → ((x : X) → P x → f x ≡ w → ⊥) → (xs : List X) → All P xs → map f xs ≡ words → ⊥
stops_reading P f words i w b e n xs h m = read_stops P f xs i w h (rw m b) (rw m e) n

pub returns-in-None : goal.returns-in-None
returns-in-None c = λ ns bytes e.
    stops_reading (λ (n : ℕ). n ≤ 255) decimal (map (λ w. w.now) c.args.words.now) c.loop-word.word-index _
    (rw length-map c.loop-word-test.true) (get_or-map (λ w. w.now) c.args.words.now c.loop-word.word-index _ _ c.loop-word-test.true) (λ n h k. c.in-None.ensures n (omega arith) h k) ns bytes.each e
