-- Report lines as the code formats them, piece by piece, are those of the definitions.
use Rattle.std.proofs.Common.{◌≡◌, ◌∙◌, ◌++◌, ◌∷◌, [], ℕ, List, append_assoc, ap}
use Rattle.std.specs.Prelude.{codes}
use Rattle.std.specs.Fmt.{decimal}
use Rattle.audit_cli.specs.Printed.{report_of, tidied_report}

-- after the first word
pieces : (n b a : List ℕ) → (n ++ 10 ∷ []) ++ (codes "instructions" ++ (32 ∷ b) ++ (32 ∷ a) ++ 10 ∷ []) ≡ n ++ 10 ∷ (codes "instructions " ++ (b ++ 32 ∷ (a ++ 10 ∷ [])))
pieces n b a =
    append_assoc n (10 ∷ []) (codes "instructions" ++ (32 ∷ b) ++ (32 ∷ a) ++ 10 ∷ [])
    ∙ ap (λ w. n ++ 10 ∷ (codes "instructions " ++ w)) (append_assoc b (32 ∷ a) (10 ∷ []))

pub report_is : (r b a : ℕ) → report_of r b a ≡ codes "replaced " ++ (decimal r ++ 10 ∷ (codes "instructions " ++ (decimal b ++ 32 ∷ (decimal a ++ 10 ∷ []))))
report_is r b a = ap (λ w. codes "replaced " ++ w) (pieces (decimal r) (decimal b) (decimal a))

pub tidied_report_is : (n b a : ℕ) → tidied_report n b a ≡ codes "tidied " ++ (decimal n ++ 10 ∷ (codes "instructions " ++ (decimal b ++ 32 ∷ (decimal a ++ 10 ∷ []))))
tidied_report_is n b a = ap (λ w. codes "tidied " ++ w) (pieces (decimal n) (decimal b) (decimal a))
