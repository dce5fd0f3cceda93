use Rattle.std.proofs.Common.{◌≡◌, ◌≤◌, rules, ap, sym, ◌∙◌, arith, subst, length, map, List, true, Some}
use Rattle.std.specs.List.{list_all, flat_map}
use Rattle.std.proofs.lemmas.List.{length-map}
use Rattle.thumb_instr.specs.declared.instr.Instr.{Instr}
use Rattle.thumb_instr.specs.Window.{is_in_window, normal_of, named, renamed, AreBelow}
use Rattle.rule_table.specs.Canonical.{numbers_of, appearing, masked, name_in}
use Rattle.rule_table.proofs.Backs.{windows_normal, all_back, all_below, all_appear, AreNames, eight}
use Rattle.rule_table.proofs.windows.canonical.Goals as goal

pub order_of-requires : goal.order_of-requires
order_of-requires c =
    let windows : list_all is_in_window c.args.window.now ≡ true = sym c.are_windows.ensures ∙ c.if-not-are_windows.false in
    ap (list_all is_in_window) (c.as_slice.ensures.value ∙ c.normalised-normal.ensures) ∙ windows_normal c.args.window.now windows

pub returns-in-Some : goal.returns-in-Some
returns-in-Some c =
    let window = c.args.window.now in
    let normals = map normal_of window in
    let registers = c.in-Some.order.items in
    let names = c.names_of-names.result in
    let windows : list_all is_in_window window ≡ true = sym c.are_windows.ensures ∙ c.if-not-are_windows.false in
    let normal_windows : list_all is_in_window normals ≡ true = windows_normal window windows in
    let slice : c.as_slice.result.now ≡ normals = c.as_slice.ensures.value ∙ c.normalised-normal.ensures in
    let order : numbers_of registers ≡ appearing normals = c.in-Some.ensures.0 ∙ ap appearing slice in
    let few : length (appearing normals) ≤ 4 = omega (arith, ap length order, length-map registers (λ r. r.number), c.in-Some.ensures.1) in
    let are : AreNames registers names = c.names_of-names.ensures ∙ ap (λ rs. map (name_in (numbers_of rs)) eight) c.deref.ensures.0 in
    let known = all_appear (numbers_of registers) (flat_map named normals) order in
    let seq : c.renamed_all-seq.result ≡ map (renamed names) normals =
    c.renamed_all-seq.ensures
    ∙ ap (λ rs. map (renamed rs) c.as_slice-in-Some.result.now) c.as_slice-in-Some-2.ensures
    ∙ ap (map (renamed names)) (c.as_slice-in-Some.ensures.value ∙ c.normalised-normal.ensures) in (
      record { some = search rules; few = omega (arith, c.if-window-gt5.false); windows = windows; registers = few },
      record {
        registers = registers;
        is_given = c.to.ensures ∙ ap (map Some) c.deref-in-Some.ensures.0;
        order = order;
        under = ap (map (renamed registers)) seq ∙ all_back registers names are normals normal_windows known;
        below = subst (λ (is : List Instr). AreBelow (length registers) (flat_map named is)) (sym seq) (all_below registers names are normals normal_windows known);
        masks = λ x. c.mask_of.ensures x ∙ ap (λ rs. masked c.args.items.bits (numbers_of rs) x) c.deref-in-Some-2.ensures.0;
      },
    )
