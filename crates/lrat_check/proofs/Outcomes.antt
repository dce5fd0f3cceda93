-- What reading a part of a line says of the line.
use Rattle.std.proofs.Common.{◌≡◌, ℕ, ℤ, List, [], ◌∷◌, ◌++◌, map, decimal, refl, sym, ◌∙◌, ap, subst, append_assoc, Option, Some, None, Result, Ok, Err}
use Rattle.std.specs.Prelude.{All, MatchOption, IfOk}
use Rattle.std.specs.Fmt.{signed_decimal}
use Rattle.std.specs.List.{slice_split, join_with_byte}
use Rattle.std.proofs.Math.Dec.{eqb}
use Rattle.std.proofs.lemmas.List.{append-nil}
use Rattle.std.proofs.lemmas.List.Splits.{join_with_byte-slice_split}
use Rattle.lrat_check.specs.declared.line.Line.{Line}
use Rattle.lrat_check.specs.Numbers.{IsId, AllWithin}
use Rattle.lrat_check.specs.Text.{Content, addition, deletion, content_of, text_of, words_of, middle_of, id_of, literal_text, end_word, deletion_word, HasGoodParts, IsLine}
use Rattle.lrat_check.specs.Reading.{IsLineWith}
use Rattle.lrat_check.proofs.Texts.{split_unique, literals_not_end, addition_differs, split-text, push_same, id_injective, ids_injective, hints_injective, literals_injective}

module _ {E : Type 0} (id : ℕ) where
  -- the literals are known, and the hints are read
  pub addition_outcome : (r : Result (Option Line) E) (words left : List (List ℕ)) (literals : List ℕ) → AllWithin literals → words ≡ map literal_text literals ++ end_word ∷ left
      → IfOk r (λ o. MatchOption o ((hints : List ℤ) → HasGoodParts (addition id literals hints) → map signed_decimal hints ++ end_word ∷ [] ≡ left → ⊥) (IsLineWith id (map literal_text literals ++ end_word ∷ left)))
      → IfOk r (λ o. MatchOption o ((ls : List ℕ) (hints : List ℤ) → HasGoodParts (addition id ls hints) → middle_of (addition id ls hints) ++ end_word ∷ [] ≡ words → ⊥) (IsLineWith id words))
  addition_outcome (Ok None) words left literals b w h = λ ls hints g e.
      let s = split_unique end_word (map literal_text ls) (map literal_text literals) (map signed_decimal hints ++ end_word ∷ []) left (literals_not_end ls g.0) (literals_not_end literals b) (sym (append_assoc (map literal_text ls) (end_word ∷ map signed_decimal hints) (end_word ∷ [])) ∙ e ∙ w) in
      let same : ls ≡ literals = literals_injective ls literals g.0 b s.0 in
      h hints (subst (λ (xs : List ℕ). HasGoodParts (addition id xs hints)) same g) s.1
  addition_outcome (Ok (Some line)) words left literals b w h = subst (λ (ws : List (List ℕ)). IsLineWith id ws line) (sym w) h
  addition_outcome (Err x) words left literals b w h = tt

  pub deletion_outcome : (r : Result (Option Line) E) (words after : List (List ℕ)) → words ≡ deletion_word ∷ after
      → IfOk r (λ o. MatchOption o ((ids : List ℕ) → All IsId ids → map decimal ids ++ end_word ∷ [] ≡ after → ⊥) (IsLineWith id (deletion_word ∷ after)))
      → IfOk r (λ o. MatchOption o ((content : Content) → HasGoodParts content → middle_of content ++ end_word ∷ [] ≡ words → ⊥) (IsLineWith id words))
  deletion_outcome (Ok None) words after w h = λ content g e. other content g (e ∙ w)
    where
      other : (content : Content) → HasGoodParts content → middle_of content ++ end_word ∷ [] ≡ deletion_word ∷ after → ⊥
      other (addition n literals hints) g e = addition_differs n literals hints deletion_word after (end_word ∷ []) g e refl
      other (deletion n ids) g e = let f : map decimal ids ++ end_word ∷ [] ≡ after = cc in h ids g f
  deletion_outcome (Ok (Some line)) words after w h = subst (λ (ws : List (List ℕ)). IsLineWith id ws line) (sym w) h
  deletion_outcome (Err x) words after w h = tt

  pub other_outcome : (r : Result (Option Line) E) (words : List (List ℕ)) → ((after : List (List ℕ)) → words ≡ deletion_word ∷ after → ⊥)
      → IfOk r (λ o. MatchOption o ((literals : List ℕ) (hints : List ℤ) → HasGoodParts (addition id literals hints) → middle_of (addition id literals hints) ++ end_word ∷ [] ≡ words → ⊥) (IsLineWith id words))
      → IfOk r (λ o. MatchOption o ((content : Content) → HasGoodParts content → middle_of content ++ end_word ∷ [] ≡ words → ⊥) (IsLineWith id words))
  other_outcome (Ok None) words n h = λ content g e. other content g e
    where
      other : (content : Content) → HasGoodParts content → middle_of content ++ end_word ∷ [] ≡ words → ⊥
      other (addition m literals hints) g e = h literals hints g e
      other (deletion m ids) g e = n (map decimal ids ++ end_word ∷ []) (sym e)
  other_outcome (Ok (Some line)) words n h = h
  other_outcome (Err x) words n h = tt

-- a line is determined by its words as by its text
pub text_outcome : (o : Option Line) (words : List (List ℕ)) (bytes : List ℕ) → words ≡ slice_split (λ b. eqb b 32) bytes
    → MatchOption o ((content : Content) → IsLine content → words_of content ≡ words → ⊥) (λ line. IsLine (content_of line) × (words_of (content_of line) ≡ words))
    → MatchOption o ((content : Content) → IsLine content → text_of content ≡ bytes → ⊥) (λ line. IsLine (content_of line) × (text_of (content_of line) ≡ bytes))
text_outcome None words bytes s h = λ content g e. h content g (sym (split-text content g) ∙ ap (slice_split (λ b. eqb b 32)) e ∙ sym s)
text_outcome (Some line) words bytes s h = (h.0, ap (join_with_byte 32) (h.1 ∙ s) ∙ join_with_byte-slice_split 32 bytes)

-- lines with the same text are equal
pub text_of-injective : (a b : Content) → IsLine a → IsLine b → text_of a ≡ text_of b → a ≡ b
text_of-injective a b g h e =
    let words : words_of a ≡ words_of b = sym (split-text a g) ∙ ap (slice_split (λ b. eqb b 32)) e ∙ split-text b h in
    let first : decimal (id_of a) ≡ decimal (id_of b) = cc in
    let rest : middle_of a ++ end_word ∷ [] ≡ middle_of b ++ end_word ∷ [] = cc in
    same a b g.1 h.1 (id_injective (id_of a) (id_of b) g.0 h.0 first) (push_same (middle_of a) (middle_of b) end_word end_word rest).0
  where
    same : (a b : Content) → HasGoodParts a → HasGoodParts b → id_of a ≡ id_of b → middle_of a ≡ middle_of b → a ≡ b
    same (addition id literals hints) (addition n ls hs) g h i m =
        let s = split_unique end_word (map literal_text literals) (map literal_text ls) (map signed_decimal hints) (map signed_decimal hs) (literals_not_end literals g.0) (literals_not_end ls h.0) m in
        let x : id ≡ n = i in
        let y : literals ≡ ls = literals_injective literals ls g.0 h.0 s.0 in
        let z : hints ≡ hs = hints_injective hints hs g.2 h.2 s.1 in
        rw (x, y, z) refl
    same (addition id literals hints) (deletion n ids) g h i m = absurd (addition_differs id literals hints deletion_word (map decimal ids) [] g (append-nil (middle_of (addition id literals hints)) ∙ m) refl)
    same (deletion id ids) (addition n ls hs) g h i m = absurd (addition_differs n ls hs deletion_word (map decimal ids) [] h (append-nil (middle_of (addition n ls hs)) ∙ sym m) refl)
    same (deletion id ids) (deletion n js) g h i m =
        let x : id ≡ n = i in
        let f : map decimal ids ≡ map decimal js = cc in
        let y : ids ≡ js = ids_injective ids js g h f in
        rw (x, y) refl
