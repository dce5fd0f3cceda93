-- Reading the four numbers of a family's line: what is read is what is written, and all that is written is read.
use Rattle.std.proofs.Common.{◌≡◌, ℕ, ◌<◌, ◌^◌, List, [], ◌∷◌, map, sym, subst, arith, Option, Some, None}
use Rattle.std.specs.Prelude.{decimal, MatchOption}
use Rattle.std.specs.List.{All}
use Rattle.std.proofs.lemmas.List.Elements.{All-weaker}
use Rattle.rule_table.specs.declared.tails.Raised.{Raised}
use Rattle.rule_table.specs.Text.{Family}
use Rattle.rule_table.specs.Items.{IsItem}
use Rattle.rule_table.specs.Fronts.{tail_of}
use Rattle.rule_table.specs.Words.{AreWords}
use Rattle.rule_table.proofs.ListTexts.{IsShort, number_words, words_one, words_blanks}

-- numbers of 32 bits are short enough
pub words_short : (ns : List ℕ) → All (λ n. n < 2 ^ 32) ns → All IsShort ns
words_short ns all = All-weaker (λ n. n < 2 ^ 32) IsShort (λ n h. omega arith) ns all

-- if the bytes are the text of a family's numbers, their words are the numerals of these
pub family_words : (bs : List ℕ) (entry number low high : ℕ) → IsItem (Family entry number low high) → tail_of (Family entry number low high) ≡ bs
    → AreWords bs (map decimal (entry ∷ number ∷ low ∷ high ∷ []))
family_words bs entry number low high is e =
    let ns : List ℕ = entry ∷ number ∷ low ∷ high ∷ [] in
    number_words bs ns (words_short ns is) (omega arith) e

-- the result of reading the words is right
pub made_family : (bs : List ℕ) (words : List (List ℕ)) (o : Option Raised) → AreWords bs words
    → MatchOption o ((entry number low high : ℕ) → IsItem (Family entry number low high) → map decimal (entry ∷ number ∷ low ∷ high ∷ []) ≡ words → ⊥)
    (λ r. IsItem (Family r.entry r.number r.low r.high) × (map decimal (r.entry ∷ r.number ∷ r.low ∷ r.high ∷ []) ≡ words))
    → MatchOption o ((entry number low high : ℕ) → IsItem (Family entry number low high) → tail_of (Family entry number low high) ≡ bs → ⊥)
    (λ r. IsItem (Family r.entry r.number r.low r.high) × (tail_of (Family r.entry r.number r.low r.high) ≡ bs))
made_family bs words None a made = λ entry number low high is text.
    made entry number low high is (words_one bs (map decimal (entry ∷ number ∷ low ∷ high ∷ [])) words (family_words bs entry number low high is text) a)
made_family bs words (Some r) a made = (made.0, words_blanks bs (map decimal (r.entry ∷ r.number ∷ r.low ∷ r.high ∷ [])) (subst (AreWords bs) (sym made.1) a))
