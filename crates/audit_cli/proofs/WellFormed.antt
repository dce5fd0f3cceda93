-- A rewritten listing is a listing again: its text is read as its lines.
use Rattle.std.proofs.Common.{◌≡◌, ◌∙◌, ℕ, ◌+◌, ◌<◌, true, List, [], ◌∷◌, length, map, drop, refl, sym, ap, subst, arith, true≢false}
use Rattle.std.specs.Prelude.{slice_get}
use Rattle.std.specs.List.{list_all}
use Rattle.thumb_instr.specs.declared.instr.Instr.{Instr}
use Rattle.thumb_instr.specs.declared.instr.Instr.TheVariants as instr
use Rattle.thumb_instr.specs.Window.{Low, renamed, is_in_window}
use Rattle.thumb_model.specs.Listing.{ListingLine, Place, plain, places_of, code_of, is_op_place}
use Rattle.rule_model.specs.Rules.{Rule, Applies, AreSound}
use Rattle.thumb_model.specs.Effect.{AreOver}
use Rattle.rule_model.specs.Rewriting.{Replacement, AppliesIn, AreRewritten, lines_after, lines_after_rule}
use Rattle.thumb_model.proofs.Lists.{get_drop, get_take}
use Rattle.rule_model.proofs.LinesKept.{few_after, one_line_keeps, some_left}
use Rattle.rule_model.proofs.Table.{window_length}
use Rattle.listing_parser.specs.Parsing.{IsListing, text_of_lines}
use Rattle.listing_parser.specs.Replacing.{names_no_label}
use Rattle.listing_parser.proofs.PrintLemmas.{prints_back}
use Rattle.listing_parser.proofs.ReplacedLines.{replaced_reads_again}
use Rattle.rule_table.specs.Table.{Table}
use Rattle.table_audit.specs.Soundness.{numbers_of}
use Rattle.window_rewrite.specs.TableRewriting.{setting}
use Rattle.thumb_assembler.proofs.Fairness.{few_lines}
use Rattle.padded_code.proofs.Lines.{plain_op}

-- ---- one replacement ----

-- an instruction of a window names no label, whatever its registers
unlabelled : (registers : List Low) (i : Instr) → is_in_window i ≡ true → names_no_label (renamed registers i) ≡ true
unlabelled registers (instr.BranchIf c d) e = absurd (true≢false (sym e))
unlabelled registers (instr.Branch d) e = absurd (true≢false (sym e))
unlabelled registers (instr.Call d) e = absurd (true≢false (sym e))
unlabelled registers (instr.Literal t d) e = absurd (true≢false (sym e))
unlabelled registers (instr.Address t d) e = absurd (true≢false (sym e))
unlabelled registers i e = refl

all_unlabelled : (registers : List Low) (k : ℕ) (is : List Instr) → AreOver k is → list_all names_no_label (map (renamed registers) is) ≡ true
all_unlabelled registers k [] over = refl
all_unlabelled registers k (i ∷ is) over = rw (unlabelled registers i over.0) (all_unlabelled registers k is over.2)

-- there are instructions where a rule applies
stand_there : (rule : Rule) (r : Replacement) (ls : List ListingLine) → Applies rule r.registers (code_of ls) r.place → (k : ℕ) → k < length rule.left → is_op_place (slice_get (places_of ls) (r.place + k)) ≡ true
stand_there rule r ls a k lt =
    let n = window_length rule r.registers (code_of ls) r.place a in
    let there : slice_get (places_of ls) (r.place + k) ≡ slice_get (map plain a.window) k =
    sym (get_drop r.place (places_of ls) k (r.place + k) refl) ∙ sym (get_take (length rule.left) (drop r.place (places_of ls)) k lt) ∙ ap (λ (ps : List Place). slice_get ps k) a.stands in
    ap is_op_place there ∙ plain_op a.window k (omega arith)

reads_after : (base : ℕ) (t : Table) (r : Replacement) (bytes : List ℕ) (ls : List ListingLine) → AreSound (numbers_of t) → AppliesIn (setting base t) r ls → IsListing bytes ls
    → IsListing (text_of_lines (lines_after (setting base t) r ls)) (lines_after (setting base t) r ls)
reads_after base t r bytes ls sound a is =
    let s = setting base t in
    let rule = a.rule in
    let instrs = map (renamed r.registers) rule.right in
    let keeps = one_line_keeps s r ls sound a in
    let within = few_after s r ls a in
    let few = few_lines bytes ls is in
    replaced_reads_again bytes ls r.place (length rule.left) instrs (lines_after s r ls) is
    (record {
      are = ap (λ o. lines_after_rule s o r ls) a.is_rule;
      some = some_left s r ls a;
      window = stand_there rule r ls a.applies;
      plain = all_unlabelled r.registers _ rule.right (sound r.entry r.instance rule a.is_rule).right;
      kept = λ name h. keeps.entry name h;
      few = omega arith;
    })

-- ---- all of them ----

pub still_reads : (base : ℕ) (t : Table) (bytes : List ℕ) (given : List ListingLine) (rs : List Replacement) (new : List ListingLine) → AreSound (numbers_of t) → AreRewritten (setting base t) given rs new → IsListing bytes given
    → IsListing (text_of_lines new) new
still_reads base t bytes given [] new sound h is = subst (λ (ls : List ListingLine). IsListing (text_of_lines ls) ls) (sym h.1) (subst (λ (bs : List ℕ). IsListing bs given) (sym (prints_back bytes given is)) is)
still_reads base t bytes given (r ∷ rs) new sound h is =
    let next = lines_after (setting base t) r given in
    still_reads base t (text_of_lines next) next rs new sound h.1 (reads_after base t r bytes given sound h.0.applies is)
