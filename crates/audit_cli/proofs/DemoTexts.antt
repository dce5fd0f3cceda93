-- The text of the listing that `demo` makes, as the code puts it together.
use Rattle.std.proofs.Common.{◌≡◌, ◌∙◌, ℕ, ◌+◌, List, [], ◌∷◌, ◌++◌, append_assoc, add-one, ap, ap₂, sym, codes}
use Rattle.std.specs.Fmt.{decimal}
use Rattle.std.proofs.lemmas.Bool.{ne_eqb}
use Rattle.audit_cli.specs.Demo.{own, pair, window_text, windows_text, demo_text}

-- a window of each kind, piece by piece
abbrev pub cut_text : ℕ → List ℕ
cut_text d =
    9 ∷ (codes "lsls r" ++ (decimal d ++ (codes ", r" ++ (decimal d ++ (codes ", #24" ++
    (10 ∷ 9 ∷ (codes "lsrs r" ++ (decimal d ++ (codes ", r" ++ (decimal d ++ (codes ", #24" ++ (10 ∷ 9 ∷ (codes "nop" ++ 10 ∷ [])))))))))))))

abbrev pub negated_text : ℕ → List ℕ
negated_text d = 9 ∷ (codes "mvns r" ++ (decimal d ++ (codes ", r" ++ (decimal d ++ (10 ∷ 9 ∷ (codes "adds r" ++ (decimal d ++ (codes ", #1" ++ (10 ∷ 9 ∷ (codes "nop" ++ 10 ∷ []))))))))))

abbrev pub copied_text : ℕ → List ℕ
copied_text d =
    9 ∷ (codes "mov r" ++ (decimal d ++ (codes ", r" ++ (decimal d ++ (10 ∷ 9 ∷ (codes "mov r" ++ (decimal d ++ (codes ", r" ++ (decimal d ++ (10 ∷ 9 ∷ (codes "nop" ++ 10 ∷ [])))))))))))

abbrev window_of : ℕ → ℕ → List ℕ
window_of kind d = pair kind (114 ∷ decimal d) ++ own (codes "nop")

-- a line's text, piece by piece, and what follows it
twice : (x c s : List ℕ) → (x ++ (44 ∷ 32 ∷ 114 ∷ (x ++ c))) ++ s ≡ x ++ (44 ∷ 32 ∷ 114 ∷ (x ++ (c ++ s)))
twice x c s = append_assoc x (44 ∷ 32 ∷ 114 ∷ (x ++ c)) s ∙ ap (λ (t : List ℕ). x ++ (44 ∷ 32 ∷ 114 ∷ t)) (append_assoc x c s)

own_more : (front back s : List ℕ) → own (front ++ back) ++ s ≡ 9 ∷ (front ++ (back ++ (10 ∷ s)))
own_more front back s = ap (λ (t : List ℕ). 9 ∷ t) (append_assoc (front ++ back) (10 ∷ []) s ∙ append_assoc front back (10 ∷ s))

abbrev both : List ℕ → List ℕ → List ℕ → List ℕ
both front x c = own (front ++ ((114 ∷ x) ++ (codes ", " ++ ((114 ∷ x) ++ c))))

both_more : (front x c s : List ℕ) → both front x c ++ s ≡ 9 ∷ (front ++ (114 ∷ (x ++ (44 ∷ 32 ∷ 114 ∷ (x ++ (c ++ (10 ∷ s)))))))
both_more front x c s = own_more front _ s ∙ ap (λ (t : List ℕ). 9 ∷ (front ++ (114 ∷ t))) (twice x c (10 ∷ s))

abbrev copy : List ℕ → List ℕ → List ℕ
copy front x = own (front ++ ((114 ∷ x) ++ (codes ", " ++ (114 ∷ x))))

copy_more : (front x s : List ℕ) → copy front x ++ s ≡ 9 ∷ (front ++ (114 ∷ (x ++ (44 ∷ 32 ∷ 114 ∷ (x ++ (10 ∷ s))))))
copy_more front x s = own_more front _ s ∙ ap (λ (t : List ℕ). 9 ∷ (front ++ (114 ∷ t))) (append_assoc x (44 ∷ 32 ∷ 114 ∷ x) (10 ∷ s))

abbrev number : List ℕ → List ℕ → List ℕ → List ℕ
number front x c = own (front ++ ((114 ∷ x) ++ c))

number_more : (front x c s : List ℕ) → number front x c ++ s ≡ 9 ∷ (front ++ (114 ∷ (x ++ (c ++ (10 ∷ s)))))
number_more front x c s = own_more front _ s ∙ ap (λ (t : List ℕ). 9 ∷ (front ++ (114 ∷ t))) (append_assoc x c (10 ∷ s))

cut_is : (d : ℕ) → window_of 0 d ≡ cut_text d
cut_is d =
    let x = decimal d in
    let last = own (codes "nop") in
    append_assoc (both (codes "lsls ") x (codes ", #24")) (both (codes "lsrs ") x (codes ", #24")) last
    ∙ both_more (codes "lsls ") x (codes ", #24") (both (codes "lsrs ") x (codes ", #24") ++ last)
    ∙ ap (λ (t : List ℕ). 9 ∷ (codes "lsls r" ++ (x ++ (codes ", r" ++ (x ++ (codes ", #24" ++ (10 ∷ t))))))) (both_more (codes "lsrs ") x (codes ", #24") last)

negated_is : (d : ℕ) → window_of 1 d ≡ negated_text d
negated_is d =
    let x = decimal d in
    let last = own (codes "nop") in
    append_assoc (copy (codes "mvns ") x) (number (codes "adds ") x (codes ", #1")) last
    ∙ copy_more (codes "mvns ") x (number (codes "adds ") x (codes ", #1") ++ last)
    ∙ ap (λ (t : List ℕ). 9 ∷ (codes "mvns r" ++ (x ++ (codes ", r" ++ (x ++ (10 ∷ t)))))) (number_more (codes "adds ") x (codes ", #1") last)

copied_is : (d : ℕ) → (copy (codes "mov ") (decimal d) ++ copy (codes "mov ") (decimal d)) ++ own (codes "nop") ≡ copied_text d
copied_is d =
    let x = decimal d in
    let last = own (codes "nop") in
    append_assoc (copy (codes "mov ") x) (copy (codes "mov ") x) last
    ∙ copy_more (codes "mov ") x (copy (codes "mov ") x ++ last)
    ∙ ap (λ (t : List ℕ). 9 ∷ (codes "mov r" ++ (x ++ (codes ", r" ++ (x ++ (10 ∷ t)))))) (copy_more (codes "mov ") x last)

pub cut_window : (kind d : ℕ) → kind ≡ 0 → pair kind (114 ∷ decimal d) ++ own (codes "nop") ≡ cut_text d
cut_window kind d e = ap (λ (k : ℕ). window_of k d) e ∙ cut_is d

pub negated_window : (kind d : ℕ) → kind ≡ 1 → pair kind (114 ∷ decimal d) ++ own (codes "nop") ≡ negated_text d
negated_window kind d e = ap (λ (k : ℕ). window_of k d) e ∙ negated_is d

pub copied_window : (kind d : ℕ) → (kind ≡ 0 → ⊥) → (kind ≡ 1 → ⊥) → pair kind (114 ∷ decimal d) ++ own (codes "nop") ≡ copied_text d
copied_window kind d e f = rw (ne_eqb kind 0 e, ne_eqb kind 1 f) (copied_is d)

pub one_window_more : (i : ℕ) (text window new : List ℕ) → text ≡ codes "demo:" ++ 10 ∷ windows_text i → window ≡ window_text i → new ≡ text ++ window → new ≡ codes "demo:" ++ 10 ∷ windows_text (i + 1)
one_window_more i text window new e f g =
    g ∙ ap₂ (λ (x y : List ℕ). x ++ y) e f ∙ ap (λ (n : ℕ). codes "demo:" ++ 10 ∷ windows_text n) (sym (add-one i))

pub whole_text : (i n : ℕ) (text new : List ℕ) → i ≡ n → text ≡ codes "demo:" ++ 10 ∷ windows_text i → new ≡ text ++ own (codes "bx lr") → new ≡ demo_text n
whole_text i n text new same e g = g ∙ ap (λ (t : List ℕ). t ++ own (codes "bx lr")) (e ∙ ap (λ (m : ℕ). codes "demo:" ++ 10 ∷ windows_text m) same)
