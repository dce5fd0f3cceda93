-- Where the places of a listing begin, and what a branch surely reaches from there.
use Rattle.std.proofs.Common.{◌≡◌, ◌∙◌, ℕ, zero, suc, ◌<◌, true, List, [], ◌∷◌, length, length-append, get_or, replicate, Option, Some, refl, sym, ap, arith}
use Rattle.std.proofs.lemmas.Option.{slice_get_read}
use Rattle.thumb_instr.specs.declared.instr.Instr.{Instr}
use Rattle.thumb_model.specs.Listing.{Name, ListingLine, places_in, places_of}
use Rattle.listing_parser.specs.TableWords.{label_line}
use Rattle.listing_parser.proofs.LabelLemmas.{label_within}
use Rattle.steady_layout.specs.declared.starts.Start.{Start}
use Rattle.steady_layout.specs.Starts.{starts_from}
use Rattle.steady_layout.specs.Steady.{behind, first, labels_in, sets_in, steady_aim}
use Rattle.steady_layout.proofs.Lines.{as_many, label_at}
use Rattle.flow_tidy.specs.declared.widest_layout.WidestLayout.{WidestLayout}
use Rattle.flow_tidy.specs.WidestLayout.{places_begin, IsWidestLayout, IsSteadyTo}

-- ---- places, line by line ----

pub repeated : (n : ℕ) (s : Start) → length (replicate n s) ≡ n
repeated zero s = refl
repeated (suc n) s = ap suc (repeated n s)

as_many_places : (here : Start) (ls : List ListingLine) → length (places_begin (starts_from here ls) ls) ≡ length (places_of ls)
as_many_places here [] = refl
as_many_places here (l ∷ ls) =
    let n : ℕ = length (places_in l.statement) in
    let rest = as_many_places (behind here l.statement) ls in
    let a = length-append (replicate n here) (places_begin (starts_from (behind here l.statement) ls) ls) in
    let b = length-append (places_in l.statement) (places_of ls) in
    let c = repeated n here in
    omega arith

-- ---- a branch to a label ----

pub place_within : (ls : List ListingLine) (g : WidestLayout) (p : ℕ) → IsWidestLayout ls g → p < length (places_of ls) → p < length g.places.items
place_within ls g p h w =
    let many = as_many_places (first g.base) ls in
    let each : g.places.items ≡ places_begin (starts_from (first g.base) ls) ls = h.places ∙ ap (λ (ss : List Start). places_begin ss ls) h.lines.each in
    let same = ap length each in
    omega arith

pub line_within : (ls : List ListingLine) (g : WidestLayout) (name : Name) (n : ℕ) → IsWidestLayout ls g → Some n ≡ label_line name 0 ls → n < length g.lines.items
line_within ls g name n h e =
    let below = label_within name ls n (sym e) in
    let many = as_many (first g.base) ls in
    let same = ap length h.lines.each in
    omega arith

pub is_reached : (ls : List ListingLine) (g : WidestLayout) (p line : ℕ) (i : Instr) (name : Name) (from to : Start) → IsWidestLayout ls g → p < length (places_of ls) → from ≡ get_or g.places.items p from → to ≡ get_or g.lines.items line to → Some line ≡ label_line name 0 ls
    → ((set : Option ℕ) → steady_aim g.base from i (Some to) set 0 ≡ true) → IsSteadyTo g.base ls p i name
is_reached ls g p line i name from to h within e f k near =
    let all : List Start = places_begin (starts_from (first g.base) ls) ls in
    let each : g.places.items ≡ all = h.places ∙ ap (λ (ss : List Start). places_begin ss ls) h.lines.each in
    let label : labels_in g.base ls name ≡ Some to =
    label_at name 0 line line (first g.base) to ls (sym k) (omega arith)
    ∙ ap (λ (ss : List Start). Some (get_or ss line to)) (sym h.lines.each)
    ∙ ap (λ (s : Start). Some s) (sym f) in
    record {
      start = from;
      begins = slice_get_read all (length (places_of ls)) p from (sym (as_many_places (first g.base) ls)) within (e ∙ ap (λ (ss : List Start). get_or ss p from) each);
      steady = ap (λ (o : Option Start). steady_aim g.base from i o (sets_in ls name) 0) label ∙ near (sets_in ls name);
    }
