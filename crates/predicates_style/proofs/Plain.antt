-- In the style that is none, the lines are those of the case.
use Rattle.std.proofs.Common.{◌≡◌, ◌+◌, ℕ, List, [], ◌∷◌, ◌++◌, refl, ap, ◌∙◌, append_assoc, flat_map, codes}
use Rattle.predicates_reflection.specs.Tree.{Forest, Tree, empty, branch}
use Rattle.predicates_reflection.specs.Describe.{CaseNode, NamedBytes}
use Rattle.predicates_reflection.specs.Lines.{indented, verdict, product_line, forest_lines, lines}
use Rattle.predicates_style.specs.declared.style.Style.{Style}
use Rattle.predicates_style.specs.Style.{plain}
use Rattle.predicates_style.specs.StyledLines.{styled_product, styled_forest, styled_tree, styled_lines}

plain_products : (indent : List ℕ) (ps : List NamedBytes) → flat_map (styled_product plain indent) ps ≡ flat_map (product_line indent) ps
plain_products indent [] = refl
plain_products indent (p ∷ ps) = ap (λ l. product_line indent p ++ l) (plain_products indent ps)

regrouped : (a b c d e f g : List ℕ) → ((a ++ b ++ c) ++ ((d ++ e) ++ f)) ++ g ≡ (a ++ (b ++ c) ++ d ++ e) ++ f ++ g
regrouped a b c d e f g = simp append_assoc

plain_forest : (depth number : ℕ) (f : Forest CaseNode) → styled_forest plain depth number f ≡ forest_lines depth f
plain_forest depth number empty = refl
plain_forest depth number (branch name node below next) =
    let before : List ℕ = indented depth ++ name ++ codes ": " in
    let styled : List ℕ = flat_map (styled_product plain (indented (depth + 1))) node.products in
    let products : List ℕ = flat_map (product_line (indented (depth + 1))) node.products in
    let after : List ℕ = styled_forest plain depth (number + 1) next in
    ap (λ l. (before ++ ((verdict node ++ l) ++ styled_forest plain (depth + 1) 0 below)) ++ after) (plain_products (indented (depth + 1)) node.products)
    ∙ ap (λ l. (before ++ ((verdict node ++ products) ++ l)) ++ after) (plain_forest (depth + 1) 0 below)
    ∙ ap (λ l. (before ++ ((verdict node ++ products) ++ forest_lines (depth + 1) below)) ++ l) (plain_forest depth (number + 1) next)
    ∙ regrouped (indented depth) name (codes ": ") (verdict node) products (forest_lines (depth + 1) below) (forest_lines depth next)

plain_lines : (t : Tree CaseNode) → styled_lines plain t ≡ lines t
plain_lines t =
    let products : List ℕ = flat_map (product_line (indented 1)) t.root.products in
    ap (λ l. (verdict t.root ++ l) ++ styled_forest plain 1 0 t.children) (plain_products (indented 1) t.root.products)
    ∙ ap (λ l. (verdict t.root ++ products) ++ l) (plain_forest 1 0 t.children)

pub plain_written : (s : Style) (root t : Tree CaseNode) (old new : List ℕ)
    → s ≡ plain
    → root ≡ t
    → new ≡ old ++ styled_tree s 0 root
    → new ≡ old ++ lines t
plain_written s root t old new hs ht hn =
    hn ∙ ap (λ style. old ++ styled_tree style 0 root) hs ∙ ap (λ u. old ++ styled_tree plain 0 u) ht ∙ ap (λ l. old ++ l) (plain_lines t)
