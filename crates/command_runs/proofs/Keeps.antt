-- The keep at an index of the code's list and of the definition's.
use Rattle.std.proofs.Common.{◌≡◌, ◌∙◌, ◌<◌, ℕ, List, length, map, Some, refl, sym, ap, get_or, option_map}
use Rattle.std.specs.Prelude.{slice_get, string_bytes}
use Rattle.std.proofs.lemmas.Option.{slice_get-map, slice_get_read}
use Rattle.command_runs.specs.declared.outcome.KeptText.{KeptText}
use Rattle.command_runs.specs.Outcomes.{keep_view}

pub keep_at : (ds : List KeptText) (i : ℕ) (d : KeptText) (name text : List ℕ) → i < length ds → d ≡ get_or ds i d → name ≡ string_bytes d.name → text ≡ d.text.items → slice_get (map keep_view ds) i ≡ Some (name, text)
keep_at ds i d name text l is n t =
    slice_get-map keep_view ds i ∙ (ap (option_map keep_view) (slice_get_read ds (length ds) i d refl l is)
    ∙ (ap (λ (x : List ℕ). Some (x, d.text.items)) (sym n) ∙ ap (λ (x : List ℕ). Some (name, x)) (sym t)))
