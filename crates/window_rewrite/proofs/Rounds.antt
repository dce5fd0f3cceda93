-- The loop of replacements, round by round: what completes them, what they cost, and that it ends.
use Rattle.std.proofs.Common.{◌≡◌, ℕ, ◌+◌, ◌-◌, ◌*◌, ◌<◌, ◌≤◌, List, [], ◌∷◌, ◌++◌, map, refl, sym, ap, ◌∙◌, subst, arith, append_assoc, append-nil, mul-le-mul_right}
use Rattle.std.proofs.lemmas.List.{map-append}
use Rattle.thumb_model.specs.Listing.{ListingLine, places_of}
use Rattle.rule_model.specs.Laws.{instructions}
use Rattle.rule_model.specs.Rules.{weight}
use Rattle.rule_model.specs.Rewriting.{Setting, Replacement, IsFirst, NoneApplies, AreRewritten, lines_after}
use Rattle.window_rewrite.specs.declared.choice.Replacement.{Replacement as Made}
use Rattle.window_rewrite.specs.TableRewriting.{replacement_of}
use Rattle.window_rewrite.specs.WorkList.{Completes}

-- ---- what completes the replacements ----

pub one_more : (s : Setting) (start current next : List ListingLine) (done more : List Made) (m : Made) → IsFirst s (replacement_of m) current → next ≡ lines_after s (replacement_of m) current → more ≡ done ++ m ∷ []
    → Completes s start done current → Completes s start more next
one_more s start current next done more m first e f h rs new w =
    let r : Replacement = replacement_of m in
    let there : AreRewritten s (lines_after s r current) rs new = subst (λ (l : List ListingLine). AreRewritten s l rs new) e w in
    let all : AreRewritten s start (map replacement_of done ++ (r ∷ rs)) new = h (r ∷ rs) new (first, there) in
    let same : map replacement_of done ++ (r ∷ rs) ≡ map replacement_of more ++ rs =
    sym (append_assoc (map replacement_of done) (r ∷ []) rs) ∙ ap (λ l. l ++ rs) (sym (map-append replacement_of done (m ∷ [])) ∙ ap (map replacement_of) (sym f)) in
    subst (λ (l : List Replacement). AreRewritten s start l new) same all

pub no_more : (s : Setting) (start current : List ListingLine) (done : List Made) → NoneApplies s current → Completes s start done current → AreRewritten s start (map replacement_of done) current
no_more s start current done none h = subst (λ (l : List Replacement). AreRewritten s start l current) (append-nil (map replacement_of done)) (h [] current (none, refl))

-- ---- what the looks cost ----

-- in a round places ascend: a look at one of them costs no more than a match of each entry
pub round_goes : (start before after n each entries p next : ℕ) → before ≤ start + n * each + p * entries → after ≤ before + entries → p < next → after ≤ start + n * each + next * entries
round_goes start before after n each entries p next b a h =
    let m : (p + 1) * entries ≤ next * entries = mul-le-mul_right entries (let l : p + 1 ≤ next = omega arith in l) in
    omega arith

-- and a whole round costs no more than a match of each entry at each place
pub round_ends : (start before after n each entries p count : ℕ) → before ≤ start + n * each + p * entries → after ≤ before + entries → p < count → each ≡ count * entries → after ≤ start + (n + 1) * each
round_ends start before after n each entries p count b a h e =
    let m : (p + 1) * entries ≤ count * entries = mul-le-mul_right entries (let l : p + 1 ≤ count = omega arith in l) in
    omega arith

-- the looks at the end, where no place is due
pub cost_ends : (start after n places entries passed count : ℕ) → after ≤ start + n * (places * entries) + passed * entries → passed ≡ places → count ≡ places → after ≤ start + (n + 1) * (count * entries)
cost_ends start after n places entries passed count a e f =
    let same : passed * entries ≡ places * entries = ap (λ k. k * entries) e in
    subst (λ k. after ≤ start + (n + 1) * (k * entries)) (sym f) (omega arith)

-- ---- what is left to do ----

-- what the instructions of lines cost
abbrev pub paid : Setting → List ListingLine → ℕ
paid s lines = weight s.cost (instructions (places_of lines))

-- where the instructions cost less, less is left to do, whatever is due
pub less_paid : (now was count here next : ℕ) → now < was → now * (count + 1) + (count - next) < was * (count + 1) + here
less_paid now was count here next h =
    let m : (now + 1) * (count + 1) ≤ was * (count + 1) = mul-le-mul_right (count + 1) (let l : now + 1 ≤ was = omega arith in l) in
    omega arith

-- and at the same cost less is left to do where a place was taken
pub less_left : (all count here next : ℕ) → here < next → next ≤ count → all + (count - next) < all + (count - here)
less_left all count here next h l = omega arith
