use Rattle.std.proofs.Common.{◌≡◌, ◌∙◌, ◌++◌, [], ◌∷◌, List, ℕ, append_assoc, ap, sym, refl, map}
use Rattle.std.specs.Prelude.{codes}
use Rattle.std.specs.List.{flat_map}
use Rattle.std.proofs.lemmas.List.Concat.{flat_map-append}
use Rattle.window_exec.specs.State.{seen}
use Rattle.rule_table.specs.Text.{Item, State, End, text_of_items, header_items, rule_items, family_items}
use Rattle.rule_table.specs.Views.{header_in, rule_of, family_of}
use Rattle.rule_table.proofs.writing.write_table.Goals as goal

parts : (header states rules families : List Item)
    → text_of_items (header ++ (states ++ (rules ++ (families ++ End ∷ [])))) ≡ (((text_of_items header ++ text_of_items states) ++ text_of_items rules) ++ text_of_items families) ++ codes "end\n"
parts header states rules families = simp (flat_map-append, append_assoc) refl

joined : (a b c d e h s r f : List ℕ) → e ≡ d ++ codes "end\n" → d ≡ c ++ f → c ≡ b ++ r → b ≡ a ++ s → a ≡ h → e ≡ (((h ++ s) ++ r) ++ f) ++ codes "end\n"
joined a b c d e h s r f end families rules states header =
    end ∙ ap (λ x. x ++ codes "end\n") (families ∙ ap (λ x. x ++ f) (rules ∙ ap (λ x. x ++ r) (states ∙ ap (λ x. x ++ s) header)))

pub returns : goal.returns
returns c =
    let t = c.args.table.now in
    let header = header_items (header_in t) in
    let states = map State (map seen t.states) in
    let rules = flat_map rule_items (map rule_of t.entries.items) in
    let families = flat_map family_items (map family_of t.families.items) in
    joined c.write_header.new.out.items c.write_states.new.out.items c.write_entries.new.out.items c.write_families.new.out.items c.extend_from_slice.new.self.items (text_of_items header)
    (text_of_items states) (text_of_items rules) (text_of_items families) c.in_ok-extend_from_slice.ensures.items
    (c.in_ok-write_families.ensures ∙ ap (λ fs. c.write_entries.new.out.items ++ text_of_items (flat_map family_items (map family_of fs))) c.deref-2.ensures.value)
    (c.in_ok-write_entries.ensures ∙ ap (λ es. c.write_states.new.out.items ++ text_of_items (flat_map rule_items (map rule_of es))) c.deref.ensures.value)
    (c.in_ok-write_states.ensures ∙ ap (λ ss. c.write_header.new.out.items ++ text_of_items (map State (map seen ss))) c.as_slice.ensures)
    (c.in_ok-write_header.ensures ∙ ap (λ out. out ++ text_of_items header) c.new-out.ensures.items)
    ∙ sym (parts header states rules families)
