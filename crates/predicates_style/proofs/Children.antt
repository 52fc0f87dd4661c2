-- Lemmas on the children that are shown.
use Rattle.std.proofs.Common.{◌≡◌, ◌+◌, ◌<◌, ◌^◌, ℕ, List, [], ◌∷◌, ◌++◌, length, true, false, None, ap, ap₂, sym, ◌∙◌, arith, append_assoc, append-nil, length-append, flat_map, codes, if◌then◌else◌}
use Rattle.predicates_reflection.specs.Tree.{Forest, Tree, empty, branch, named_trees}
use Rattle.predicates_reflection.specs.Describe.{CaseNode, NamedBytes, NamedCase}
use Rattle.predicates_reflection.specs.Lines.{indented}
use Rattle.predicates_reflection.proofs.Lines.{indented-more}
use Rattle.predicates_style.specs.declared.style.Style.{Style}
use Rattle.predicates_style.specs.Characters.{written_text}
use Rattle.predicates_style.specs.StyledLines.{is_shown, left_out, styled_verdict, before_value, styled_product, styled_name, styled_child, styled_forest, styled_tree}

-- the child with this number, where it is shown
abbrev pub child_if_shown : Style → ℕ → ℕ → NamedCase → List ℕ
child_if_shown s depth number c = if is_shown s.children number then styled_child s depth c else []

-- the children that are shown, of which the first has this number
abbrev pub children_shown : Style → ℕ → ℕ → List NamedCase → List ℕ
children_shown s depth number [] = []
children_shown s depth number (c ∷ cs) = child_if_shown s depth number c ++ children_shown s depth (number + 1) cs

children_shown-push : (s : Style) (depth number : ℕ) (cs : List NamedCase) (c : NamedCase) (n : ℕ)
    → number + length cs ≡ n
    → children_shown s depth number (cs ++ c ∷ []) ≡ children_shown s depth number cs ++ child_if_shown s depth n c
children_shown-push s depth number [] c n h =
    let e : number ≡ n = omega (arith, h) in
    append-nil _ ∙ ap (λ k. child_if_shown s depth k c) e
children_shown-push s depth number (b ∷ cs) c n h =
    let e : number + 1 + length cs ≡ n = omega (arith, h) in
    ap (λ l. child_if_shown s depth number b ++ l) (children_shown-push s depth (number + 1) cs c n e)
    ∙ sym (append_assoc (child_if_shown s depth number b) (children_shown s depth (number + 1) cs) (child_if_shown s depth n c))

styled_forest-children : (s : Style) (depth number : ℕ) (f : Forest CaseNode) (n : ℕ)
    → number + length (named_trees f) ≡ n
    → styled_forest s depth number f ≡ children_shown s depth number (named_trees f) ++ left_out s.children (indented depth) n
styled_forest-children s depth number empty n h =
    let e : number ≡ n = omega (arith, h) in
    ap (λ k. left_out s.children (indented depth) k) e
styled_forest-children s depth number (branch name node below next) n h =
    let c : NamedCase = (name, record { root = node; children = below }) in
    let e : number + 1 + length (named_trees next) ≡ n = omega (arith, h) in
    ap (λ l. child_if_shown s depth number c ++ l) (styled_forest-children s depth (number + 1) next n e)
    ∙ sym (append_assoc (child_if_shown s depth number c) (children_shown s depth (number + 1) (named_trees next)) (left_out s.children (indented depth) n))

-- what is written once a child is written that is shown
pub shown_more : (s : Style) (depth n : ℕ) (cs : List NamedCase) (c : NamedCase) (old out more : List ℕ)
    → n ≡ length cs
    → is_shown s.children n ≡ true
    → out ≡ old ++ children_shown s depth 0 cs
    → more ≡ out ++ styled_child s depth c
    → more ≡ old ++ children_shown s depth 0 (cs ++ c ∷ [])
shown_more s depth n cs c old out more hn hs ho hm =
    let e : 0 + length cs ≡ n = omega (arith, hn) in
    let child : child_if_shown s depth n c ≡ styled_child s depth c = ap (λ b. if b then styled_child s depth c else []) hs in
    hm ∙ ap (λ l. l ++ styled_child s depth c) ho
    ∙ append_assoc old (children_shown s depth 0 cs) (styled_child s depth c)
    ∙ ap (λ l. old ++ (children_shown s depth 0 cs ++ l)) (sym child)
    ∙ ap (λ l. old ++ l) (sym (children_shown-push s depth 0 cs c n e))

-- what is written after a child that is not shown
pub hidden_more : (s : Style) (depth n : ℕ) (cs : List NamedCase) (c : NamedCase) (old out : List ℕ)
    → n ≡ length cs
    → is_shown s.children n ≡ false
    → out ≡ old ++ children_shown s depth 0 cs
    → out ≡ old ++ children_shown s depth 0 (cs ++ c ∷ [])
hidden_more s depth n cs c old out hn hs ho =
    let e : 0 + length cs ≡ n = omega (arith, hn) in
    let child : child_if_shown s depth n c ≡ [] = ap (λ b. if b then styled_child s depth c else []) hs in
    let none : children_shown s depth 0 cs ≡ children_shown s depth 0 cs ++ child_if_shown s depth n c =
    sym (append-nil (children_shown s depth 0 cs)) ∙ ap (λ l. children_shown s depth 0 cs ++ l) (sym child) in
    ho ∙ ap (λ l. old ++ l) (none ∙ sym (children_shown-push s depth 0 cs c n e))

-- so many children can be counted
pub countable_so_far : (ts cs : List NamedCase) (c : NamedCase) (rest : List NamedCase)
    → length ts < 2 ^ 64
    → ts ≡ cs ++ c ∷ rest
    → length cs + 1 < 2 ^ 64
countable_so_far ts cs c rest small e = omega (arith, small, ap length e, length-append cs (c ∷ rest))

-- what is written, put together
pub styled_tree-written : (s : Style) (depth : ℕ) (t : Tree CaseNode) (ys : List NamedCase) (n : ℕ) (old w p o r : List ℕ)
    → w ≡ old ++ styled_verdict s t.root
    → p ≡ w ++ flat_map (styled_product s (indented depth ++ codes "  ")) t.root.products
    → o ≡ p ++ children_shown s (depth + 1) 0 ys
    → n ≡ length ys
    → r ≡ o ++ left_out s.children (indented depth ++ codes "  ") n
    → named_trees t.children ≡ ys
    → r ≡ old ++ styled_tree s depth t
styled_tree-written s depth t ys n old w p o r hw hp ho hn hr hy =
    let deep : List ℕ = indented (depth + 1) in
    let e : indented depth ++ codes "  " ≡ deep = sym (indented-more depth) in
    let v : List ℕ = styled_verdict s t.root in
    let products : List ℕ = flat_map (styled_product s deep) t.root.products in
    let children : List ℕ = children_shown s (depth + 1) 0 ys in
    let rest : List ℕ = left_out s.children deep n in
    let count : 0 + length (named_trees t.children) ≡ n = omega (arith, hn, ap length hy) in
    let below : children ++ rest ≡ styled_forest s (depth + 1) 0 t.children =
    ap (λ l. children_shown s (depth + 1) 0 l ++ rest) (sym hy) ∙ sym (styled_forest-children s (depth + 1) 0 t.children n count) in
    let headed : p ≡ (old ++ v) ++ products =
    hp ∙ ap (λ d. w ++ flat_map (styled_product s d) t.root.products) e ∙ ap (λ l. l ++ products) hw in
    let whole : r ≡ (((old ++ v) ++ products) ++ children) ++ rest =
    hr ∙ ap (λ d. o ++ left_out s.children d n) e ∙ ap (λ l. l ++ rest) (ho ∙ ap (λ l. l ++ children) headed) in
    let grouped : (((old ++ v) ++ products) ++ children) ++ rest ≡ old ++ ((v ++ products) ++ (children ++ rest)) = simp append_assoc in
    whole ∙ grouped ∙ ap (λ l. old ++ ((v ++ products) ++ l)) below

-- what is written of a product, put together
pub product_written : (s : Style) (indent name value : List ℕ) (p : NamedBytes) (old a b n k v r : List ℕ)
    → a ≡ old ++ indent
    → b ≡ a ++ codes "  - "
    → n ≡ b ++ written_text s.escapes None name
    → k ≡ n ++ before_value s.characters value
    → v ≡ k ++ written_text s.escapes s.characters value
    → name ≡ p.0
    → value ≡ p.1
    → r ≡ v ++ codes "\n"
    → r ≡ old ++ styled_product s (indent ++ codes "  ") p
product_written s indent name value p old a b n k v r ha hb hn hk hv hname hvalue hr =
    let x : List ℕ = written_text s.escapes None name in
    let y : List ℕ = before_value s.characters value in
    let z : List ℕ = written_text s.escapes s.characters value in
    let begun : b ≡ (old ++ indent) ++ codes "  - " = hb ∙ ap (λ l. l ++ codes "  - ") ha in
    let named : k ≡ (((old ++ indent) ++ codes "  - ") ++ x) ++ y = hk ∙ ap (λ l. l ++ y) (hn ∙ ap (λ l. l ++ x) begun) in
    let whole : r ≡ (((((old ++ indent) ++ codes "  - ") ++ x) ++ y) ++ z) ++ codes "\n" =
    hr ∙ ap (λ l. l ++ codes "\n") (hv ∙ ap (λ l. l ++ z) named) in
    let grouped : (((((old ++ indent) ++ codes "  - ") ++ x) ++ y) ++ z) ++ codes "\n" ≡ old ++ styled_product s (indent ++ codes "  ") (name, value) = simp append_assoc in
    whole ∙ grouped ∙ ap₂ (λ l m. old ++ styled_product s (indent ++ codes "  ") (l, m)) hname hvalue

-- what is written of a child, put together
pub child_written : (s : Style) (depth : ℕ) (c : NamedCase) (name : List ℕ) (t : Tree CaseNode) (out named more : List ℕ)
    → named ≡ out ++ styled_name s depth name
    → more ≡ named ++ styled_tree s depth t
    → name ≡ c.0
    → t ≡ c.1
    → more ≡ out ++ styled_child s depth c
child_written s depth c name t out named more hn hm hname ht =
    hm ∙ ap (λ l. l ++ styled_tree s depth t) hn
    ∙ append_assoc out (styled_name s depth name) (styled_tree s depth t)
    ∙ ap₂ (λ l u. out ++ (styled_name s depth l ++ styled_tree s depth u)) hname ht

-- what holds in the loop over the children once it has passed one more
pub child_passed : (s : Style) (depth n : ℕ) (ts ys zs : List NamedCase) (c : NamedCase) (rest : List NamedCase) (old more : List ℕ)
    → zs ≡ ys ++ c ∷ []
    → ts ≡ ys ++ c ∷ rest
    → length ts < 2 ^ 64
    → n ≡ length ys
    → more ≡ old ++ children_shown s depth 0 (ys ++ c ∷ [])
    → Unit {0} × Unit {0} × (ts ≡ zs ++ rest) × (length ts < 2 ^ 64) × (n + 1 ≡ length zs) × (more ≡ old ++ children_shown s depth 0 zs)
child_passed s depth n ts ys zs c rest old more hz ht small hn hm =
    let split : ts ≡ zs ++ rest = ht ∙ sym (append_assoc ys (c ∷ []) rest) ∙ ap (λ l. l ++ rest) (sym hz) in
    let count : n + 1 ≡ length zs = omega (arith, hn, ap length hz, length-append ys (c ∷ [])) in
    (tt {0}, tt {0}, split, small, count, hm ∙ ap (λ l. old ++ children_shown s depth 0 l) (sym hz))
