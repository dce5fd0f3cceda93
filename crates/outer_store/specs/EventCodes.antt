-- An encoding of calls and their answers as numbers, which a ghost field of the code needs.
use Rattle.std.specs.Prelude.{◌≡◌, ℕ, ◌==◌, cond, List, [], Ok, Err, refl}
use Rattle.std.specs.Coded.{Coded, code_by, coded×, coded_ℕ, coded_list}
use Rattle.outer_store.specs.declared.StoreError.TheVariants as store
use Rattle.outer_store.specs.declared.SinkError.TheVariants as sink
use Rattle.outer_store.specs.Outside.{Event, Fetching, Keeping, Putting}

abbrev Parts : Type 0
Parts = ℕ × (List ℕ × List ℕ)

abbrev to_parts : Event → Parts
to_parts (Fetching name (Ok text)) = (0, (name, text))
to_parts (Fetching name (Err store.Failed)) = (1, (name, []))
to_parts (Fetching name (Err store.Missing)) = (2, (name, []))
to_parts (Fetching name (Err store.TooBig)) = (3, (name, []))
to_parts (Fetching name (Err store.Memory)) = (4, (name, []))
to_parts (Keeping name bytes (Ok u)) = (5, (name, bytes))
to_parts (Keeping name bytes (Err store.Failed)) = (6, (name, bytes))
to_parts (Keeping name bytes (Err store.Missing)) = (7, (name, bytes))
to_parts (Keeping name bytes (Err store.TooBig)) = (8, (name, bytes))
to_parts (Keeping name bytes (Err store.Memory)) = (9, (name, bytes))
to_parts (Putting bytes (Ok u)) = (10, ([], bytes))
to_parts (Putting bytes (Err sink.Failed)) = (11, ([], bytes))
to_parts (Putting bytes (Err sink.Memory)) = (12, ([], bytes))

abbrev from_parts : Parts → Event
from_parts p =
    let name : List ℕ = p.1.0 in
    let bytes : List ℕ = p.1.1 in
    cond (p.0 == 0) (Fetching name (Ok bytes)) (cond (p.0 == 1) (Fetching name (Err store.Failed)) (cond (p.0 == 2) (Fetching name (Err store.Missing)) (cond (p.0 == 3) (Fetching name (Err store.TooBig))
    (cond (p.0 == 4) (Fetching name (Err store.Memory)) (cond (p.0 == 5) (Keeping name bytes (Ok tt)) (cond (p.0 == 6) (Keeping name bytes (Err store.Failed)) (cond (p.0 == 7) (Keeping name bytes (Err store.Missing))
    (cond (p.0 == 8) (Keeping name bytes (Err store.TooBig)) (cond (p.0 == 9) (Keeping name bytes (Err store.Memory)) (cond (p.0 == 10) (Putting bytes (Ok tt)) (cond (p.0 == 11) (Putting bytes (Err sink.Failed))
    (Putting bytes (Err sink.Memory)))))))))))))

pub from_parts-to_parts : (e : Event) → from_parts (to_parts e) ≡ e
from_parts-to_parts (Fetching name (Ok text)) = refl
from_parts-to_parts (Fetching name (Err store.Failed)) = refl
from_parts-to_parts (Fetching name (Err store.Missing)) = refl
from_parts-to_parts (Fetching name (Err store.TooBig)) = refl
from_parts-to_parts (Fetching name (Err store.Memory)) = refl
from_parts-to_parts (Keeping name bytes (Ok u)) = refl
from_parts-to_parts (Keeping name bytes (Err store.Failed)) = refl
from_parts-to_parts (Keeping name bytes (Err store.Missing)) = refl
from_parts-to_parts (Keeping name bytes (Err store.TooBig)) = refl
from_parts-to_parts (Keeping name bytes (Err store.Memory)) = refl
from_parts-to_parts (Putting bytes (Ok u)) = refl
from_parts-to_parts (Putting bytes (Err sink.Failed)) = refl
from_parts-to_parts (Putting bytes (Err sink.Memory)) = refl

abbrev pub events_code : Coded (List Event)
events_code = coded_list (code_by Parts (coded× coded_ℕ (coded× (coded_list coded_ℕ) (coded_list coded_ℕ))) to_parts from_parts from_parts-to_parts)
