-- Lemmas on the lines of a case.
use Rattle.std.proofs.Common.{◌≡◌, ◌+◌, ◌*◌, ℕ, List, ◌++◌, refl, ap, sym, ◌∙◌, arith, append_assoc, flat_map, codes, replicate}
use Rattle.std.proofs.lemmas.List.{replicate-append-replicate}
use Rattle.predicates_reflection.specs.Tree.{Forest, Tree, empty, branch, named_trees}
use Rattle.predicates_reflection.specs.Describe.{CaseNode, NamedCase}
use Rattle.predicates_reflection.specs.Lines.{indented, verdict, product_line, node_lines, forest_lines, tree_lines, child_lines}

twice : (n : ℕ) → 2 * (n + 1) ≡ 2 * n + 2
twice n = omega arith

pub indented-more : (depth : ℕ) → indented (depth + 1) ≡ indented depth ++ codes "  "
indented-more depth = ap (λ n. replicate n 32) (twice depth) ∙ sym (replicate-append-replicate (2 * depth) 2 32)

regrouped : (a b c d e f g : List ℕ) → (a ++ (b ++ c) ++ d ++ e) ++ f ++ g ≡ ((a ++ b ++ c) ++ ((d ++ e) ++ f)) ++ g
regrouped a b c d e f g = simp append_assoc

pub forest_lines-flat_map : (depth : ℕ) (f : Forest CaseNode) → forest_lines depth f ≡ flat_map (child_lines depth) (named_trees f)
forest_lines-flat_map depth empty = refl
forest_lines-flat_map depth (branch name node below next) =
    let deep = indented (depth + 1) in
    let products = flat_map (product_line deep) node.products in
    ap (λ l. node_lines depth (name ++ codes ": ") node ++ forest_lines (depth + 1) below ++ l) (forest_lines-flat_map depth next)
    ∙ regrouped (indented depth) name (codes ": ") (verdict node) products (forest_lines (depth + 1) below) (flat_map (child_lines depth) (named_trees next))

-- the lines of a part that is the whole
pub lines_of_all : {T : Type 0} (line : T → List ℕ) (before after : List ℕ) (part whole : List T)
    → after ≡ before ++ flat_map line part
    → part ≡ whole
    → after ≡ before ++ flat_map line whole
lines_of_all line before after part whole written e = written ∙ ap (λ ts. before ++ flat_map line ts) e

-- what is written, put together
pub tree_lines-written : (old w p o : List ℕ) (depth : ℕ) (t : Tree CaseNode) (ys : List NamedCase)
    → w ≡ old ++ verdict t.root
    → p ≡ w ++ flat_map (product_line (indented depth ++ codes "  ")) t.root.products
    → o ≡ p ++ flat_map (child_lines (depth + 1)) ys
    → named_trees t.children ≡ ys
    → o ≡ old ++ tree_lines depth t
tree_lines-written old w p o depth t ys hw hp ho hy =
    let products = flat_map (product_line (indented (depth + 1))) t.root.products in
    let children = flat_map (child_lines (depth + 1)) ys in
    let v = verdict t.root in
    let shown : p ≡ w ++ products = hp ∙ ap (λ d. w ++ flat_map (product_line d) t.root.products) (sym (indented-more depth)) in
    let regrouped : ((old ++ v) ++ products) ++ children ≡ old ++ ((v ++ products) ++ children) = simp append_assoc in
    let below : children ≡ forest_lines (depth + 1) t.children = ap (flat_map (child_lines (depth + 1))) (sym hy) ∙ sym (forest_lines-flat_map (depth + 1) t.children) in
    ho ∙ ap (λ l. l ++ children) (shown ∙ ap (λ l. l ++ products) hw) ∙ regrouped
    ∙ ap (λ l. old ++ ((v ++ products) ++ l)) below
