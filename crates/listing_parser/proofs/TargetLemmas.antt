-- The check of mentions depends only on which names are marked as functions, not on their order.
use Rattle.std.proofs.Common.{◌≡◌, ◌∙◌, ℕ, ◌+◌, ◌==◌, ◌&&◌, ◌||◌, Bool, List, [], ◌∷◌, refl, ap, Option, Some}
use Rattle.std.specs.Prelude.{not, if◌then◌else◌}
use Rattle.thumb_model.specs.Listing.{Name, Value, Number, OfName, Statement, Nothing, Instruction, Words, Aligns, Sets, ListingLine}
use Rattle.thumb_model.specs.Layout.{is_among}
use Rattle.listing_parser.specs.Targets.{is_code_label, is_word_of, are_words_of, is_on_target, first_target}

word_same : (all : List ListingLine) (ms ns : List Name) → ((q : Name) → is_among q ms ≡ is_among q ns) → (v : Value) → is_word_of all ms v ≡ is_word_of all ns v
word_same all ms ns same (Number n) = refl
word_same all ms ns same (OfName m) = ap (λ (b : Bool). not (is_code_label all m.name) || ((m.plus == 0) && b)) (same m.name)

words_same : (all : List ListingLine) (ms ns : List Name) → ((q : Name) → is_among q ms ≡ is_among q ns) → (vs : List Value) → are_words_of all ms vs ≡ are_words_of all ns vs
words_same all ms ns same [] = refl
words_same all ms ns same (v ∷ vs) =
    ap (λ (b : Bool). b && are_words_of all ms vs) (word_same all ms ns same v) ∙ ap (λ (b : Bool). is_word_of all ns v && b) (words_same all ms ns same vs)

statement_same : (all : List ListingLine) (ms ns : List Name) → ((q : Name) → is_among q ms ≡ is_among q ns) → (s : Statement) → is_on_target all ms s ≡ is_on_target all ns s
statement_same all ms ns same Nothing = refl
statement_same all ms ns same (Instruction i m) = refl
statement_same all ms ns same (Words vs) = words_same all ms ns same vs
statement_same all ms ns same (Aligns size most) = refl
statement_same all ms ns same (Sets name address) = refl

pub target_same : (all : List ListingLine) (ms ns : List Name) → ((q : Name) → is_among q ms ≡ is_among q ns) → (n : ℕ) (ls : List ListingLine) → first_target all ms n ls ≡ first_target all ns n ls
target_same all ms ns same n [] = refl
target_same all ms ns same n (l ∷ ls) =
    ap (λ (b : Bool). if b then first_target all ms (n + 1) ls else Some n) (statement_same all ms ns same l.statement)
    ∙ ap (λ (o : Option ℕ). if is_on_target all ns l.statement then o else Some n) (target_same all ms ns same (n + 1) ls)
