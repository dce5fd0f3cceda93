-- A run that is read place by place.
use Rattle.std.proofs.Common.{◌≡◌, ℕ, suc, ◌+◌, ◌-◌, ◌<◌, ◌≤◌, Bool, true, false, List, [], ◌∷◌, ◌++◌, length, length-append, drop, None, Some, sym, ap, ◌∙◌, subst, arith}
use Rattle.std.specs.Prelude.{Option, nat_eq, slice_get}
use Rattle.thumb_instr.specs.declared.instr.Instr.{Instr}
use Rattle.kept_places.specs.Marks.{is_gone, rank, IsNode}
use Rattle.kept_places.proofs.Ranks.{rank_between, rank_kept}
use Rattle.thumb_model.specs.Listing.{is_op_place, places_of}
use Rattle.thumb_model.proofs.Lists.{length_map}
use Rattle.window_runs.specs.Rows.{rows_from}
use Rattle.window_runs.specs.Runs.{instr_at, run}
use Rattle.window_runs.proofs.Joined.{run_ends, run_more}
use Rattle.padded_code.specs.Windows.{AreRanked}
use Rattle.edited_listing.specs.Changes.{is_none}
use Rattle.edited_listing.specs.Edited.{Edited, lines_now, marks}
use Rattle.edited_listing.specs.Looks.{IsNextKept}
use Rattle.edited_listing.proofs.Looking.{instr_found}

-- the instructions and places so far, the place of the last of them and the one behind it
pub record IsRun (e : Edited) (r most : ℕ) (start now : List Bool) (instrs : List Instr) (places : List ℕ) (before at : ℕ) : Type 0 where
  pub few : length instrs ≤ most
  pub as_many : length places ≡ length instrs
  pub same : now ≡ start
  pub within : at ≤ length e.stands
  pub kept : is_gone (marks e) at ≡ false
  pub ranked_at : rank (marks e) at ≡ r + length instrs
  pub follows : nat_eq (length instrs) 0 ≡ false → at < length e.stands → IsNextKept e before at
  pub ranked : AreRanked (marks e) r places
  pub run : instrs ++ run (nat_eq (length instrs) 0) (most - length instrs) (drop (r + length instrs) (rows_from false (lines_now e))) ≡ run true most (drop r (rows_from false (lines_now e)))

-- the next instruction by its number
pub next_is : (e : Edited) (r most : ℕ) (start now : List Bool) (instrs : List Instr) (places : List ℕ) (before at : ℕ) (found : Option Instr) → IsRun e r most start now instrs places before at →
    found ≡ instr_at (nat_eq (length instrs) 0) (drop (rank (marks e) at) (rows_from false (lines_now e))) → instr_at (nat_eq (length instrs) 0) (drop (r + length instrs) (rows_from false (lines_now e))) ≡ found
next_is e r most start now instrs places before at found h f = ap (λ n. instr_at (nat_eq (length instrs) 0) (drop n (rows_from false (lines_now e)))) (sym h.ranked_at) ∙ sym f

pub run_ended : (e : Edited) (r most : ℕ) (start now : List Bool) (instrs : List Instr) (places : List ℕ) (before at : ℕ) → IsRun e r most start now instrs places before at →
    instr_at (nat_eq (length instrs) 0) (drop (r + length instrs) (rows_from false (lines_now e))) ≡ None → instrs ≡ run true most (drop r (rows_from false (lines_now e)))
run_ended e r most start now instrs places before at h f =
    run_ends instrs (nat_eq (length instrs) 0) (most - length instrs) (drop (r + length instrs) (rows_from false (lines_now e))) (run true most (drop r (rows_from false (lines_now e)))) f h.run

ranked_more : (gone : List Bool) (r : ℕ) (ps : List ℕ) (p : ℕ) → AreRanked gone r ps → p < length gone → is_gone gone p ≡ false → rank gone p ≡ r + length ps → AreRanked gone r (ps ++ p ∷ [])
ranked_more gone r [] p a h k e = (h, k, omega arith, tt)
ranked_more gone r (q ∷ ps) p a h k e = (a.0, a.1, a.2, ranked_more gone (suc r) ps p a.3 h k (omega arith))

pub run_on : (e : Edited) (r most : ℕ) (start now now' : List Bool) (instrs instrs' : List Instr) (places places' : List ℕ) (before at next : ℕ) (i : Instr) → IsRun e r most start now instrs places before at → length instrs < most → at < length e.stands →
    instr_at (nat_eq (length instrs) 0) (drop (r + length instrs) (rows_from false (lines_now e))) ≡ Some i → instrs' ≡ instrs ++ i ∷ [] → places' ≡ places ++ at ∷ [] → IsNode (marks e) (at + 1) next → now' ≡ now → IsRun e r most start now' instrs' places' at next
run_on e r most start now now' instrs instrs' places places' before at next i h few inside f l q node same =
    let more : length instrs' ≡ length instrs + 1 = ap (λ (is : List Instr). length is) l ∙ length-append instrs (i ∷ []) in
    let longer : length places' ≡ length places + 1 = ap (λ (ps : List ℕ). length ps) q ∙ length-append places (at ∷ []) in
    let as_many = h.as_many in
    let here = h.ranked_at in
    let marks_many : length (marks e) ≡ length e.stands = length_map is_none e.stands in
    let beyond = node.from in
    let end = node.within in
    let next_rank : rank (marks e) next ≡ suc (rank (marks e) at) =
    ap (rank (marks e)) (let z : next ≡ at + 1 + (next - (at + 1)) = omega arith in z)
    ∙ rank_between (marks e) (next - (at + 1)) (at + 1) (λ k a b. node.between k a (omega arith))
    ∙ ap (rank (marks e)) (let z : at + 1 ≡ suc at = omega arith in z)
    ∙ rank_kept (marks e) at h.kept in
    record {
      few = omega arith;
      as_many = omega arith;
      same = same ∙ h.same;
      within = omega arith;
      kept = node.kept;
      ranked_at = omega arith;
      follows = λ b g. record {
        p_within = inside;
        p_kept = h.kept;
        q_within = g;
        q_kept = node.kept;
        next = next_rank;
        op = ap (λ n. is_op_place (slice_get (places_of (lines_now e)) n)) here ∙ instr_found (nat_eq (length instrs) 0) (lines_now e) (r + length instrs) i f;
      };
      ranked = subst (AreRanked (marks e) r) (sym q) (ranked_more (marks e) r places at h.ranked (omega arith) h.kept (omega arith));
      run = ap (λ (is : List Instr). is ++ run (nat_eq (length is) 0) (most - length is) (drop (r + length is) (rows_from false (lines_now e)))) l
          ∙ run_more instrs most r (rows_from false (lines_now e)) i few f
          ∙ h.run;
    }
