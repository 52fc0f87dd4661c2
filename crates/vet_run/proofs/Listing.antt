-- Texts with commas between them, one after the other.
use Rattle.std.proofs.Common.{◌≡◌, ℕ, ◌+◌, ◌<◌, Bool, true, false, List, [], ◌∷◌, ◌++◌, map, length, take, get_or, refl, sym, ap, ◌∙◌, append_assoc, append-nil, codes}
use Rattle.std.proofs.lemmas.List.{take_more, map-append}
use Rattle.serde_json.specs.Written.{comma_if}
use Rattle.predicates_core.specs.Tree.{Forest, empty, branch, named_trees}
use Rattle.predicates_core.specs.Describe.{CaseNode, NamedCase}
use Rattle.vet_run.specs.Objects.{listed, name_text, node_text, forest_text}

-- whether anything is in the list
abbrev pub some_in : {X : Type 0} → List X → Bool
some_in [] = false
some_in (x ∷ xs) = true

some_in-last : {X : Type 0} (xs : List X) (x : X) → some_in (xs ++ x ∷ []) ≡ true
some_in-last [] x = refl
some_in-last (y ∷ xs) x = refl

some_in-map : {X Y : Type 0} (f : X → Y) (xs : List X) → some_in (map f xs) ≡ some_in xs
some_in-map f [] = refl
some_in-map f (x ∷ xs) = refl

-- one text more, behind a comma where something stands before
listed-later : (ts : List (List ℕ)) (t : List ℕ) → listed true (ts ++ t ∷ []) ≡ listed true ts ++ (comma_if true ++ t)
listed-later [] t = ap (λ z. comma_if true ++ z) (append-nil t)
listed-later (x ∷ xs) t =
    ap (λ z. comma_if true ++ (x ++ z)) (listed-later xs t) ∙ ap (λ z. comma_if true ++ z) (sym (append_assoc x (listed true xs) (comma_if true ++ t)))

listed-last : (ts : List (List ℕ)) (t : List ℕ) → listed false (ts ++ t ∷ []) ≡ listed false ts ++ (comma_if (some_in ts) ++ t)
listed-last [] t = append-nil t
listed-last (x ∷ xs) t = ap (λ z. x ++ z) (listed-later xs t) ∙ sym (append_assoc x (listed true xs) (comma_if true ++ t))

more_is : {X : Type 0} (xs : List X) (k : ℕ) (x : X) → k < length xs → x ≡ get_or xs k x → take (k + 1) xs ≡ take k xs ++ x ∷ []
more_is xs k x within is = take_more xs k x within ∙ ap (λ z. take k xs ++ z ∷ []) (sym is)

pub later_more : {X : Type 0} (xs : List X) (k : ℕ) (x : X) → k < length xs → x ≡ get_or xs k x → true ≡ some_in (take (k + 1) xs)
later_more xs k x within is = sym (ap some_in (more_is xs k x within is) ∙ some_in-last (take k xs) x)

-- a text of one element more behind those of the others
listed_one : {X : Type 0} (f : X → List ℕ) (xs : List X) (x : X) (later : Bool) (front old new : List ℕ)
    → later ≡ some_in xs → old ≡ front ++ listed false (map f xs) → new ≡ old ++ (comma_if later ++ f x)
    → new ≡ front ++ listed false (map f (xs ++ x ∷ []))
listed_one f xs x later front old new e o n =
    n ∙ ap (λ z. z ++ (comma_if later ++ f x)) o ∙ append_assoc front (listed false (map f xs)) (comma_if later ++ f x)
    ∙ ap (λ b. front ++ (listed false (map f xs) ++ (comma_if b ++ f x))) (e ∙ sym (some_in-map f xs))
    ∙ ap (λ z. front ++ z) (sym (listed-last (map f xs) (f x))) ∙ ap (λ ts. front ++ listed false ts) (sym (map-append f xs (x ∷ [])))

pub listed_more : {X : Type 0} (f : X → List ℕ) (xs : List X) (k : ℕ) (x : X) (later : Bool) (front old between new : List ℕ)
    → k < length xs → x ≡ get_or xs k x → later ≡ some_in (take k xs)
    → old ≡ front ++ listed false (map f (take k xs)) → between ≡ old ++ comma_if later → new ≡ between ++ f x
    → new ≡ front ++ listed false (map f (take (k + 1) xs))
listed_more f xs k x later front old between new within is e o b n =
    listed_one f (take k xs) x later front old new e o (n ∙ ap (λ z. z ++ f x) b ∙ append_assoc old (comma_if later) (f x))
    ∙ ap (λ ys. front ++ listed false (map f ys)) (sym (more_is xs k x within is))

-- ---- children

-- a child under its name
abbrev pub named_text : NamedCase → List ℕ
named_text c = name_text c.0 ++ (node_text c.1.root ++ (forest_text false c.1.children ++ codes "]}}"))

pub forest_listed : (later : Bool) (f : Forest CaseNode) → forest_text later f ≡ listed later (map named_text (named_trees f))
forest_listed later empty = refl
forest_listed later (branch name node below next) =
    ap (λ z. comma_if later ++ (named_text (name, record { root = node; children = below }) ++ z)) (forest_listed true next)

joined_up : (a b c d e f : List ℕ) → (((a ++ (b ++ c)) ++ d) ++ e) ++ f ≡ a ++ (b ++ (c ++ (d ++ (e ++ f))))
joined_up a b c d e f = simp append_assoc

pub later_child : {X : Type 0} (xs : List X) (x : X) → true ≡ some_in (xs ++ x ∷ [])
later_child xs x = sym (some_in-last xs x)

pub child_more : {X : Type 0} (g : X → NamedCase) (xs : List X) (x : X) (n : NamedCase) (later : Bool) (front t0 t1 t2 t3 t4 : List ℕ)
    → g x ≡ n → later ≡ some_in xs → t0 ≡ front ++ listed false (map named_text (map g xs))
    → t1 ≡ t0 ++ (comma_if later ++ name_text n.0) → t2 ≡ t1 ++ node_text n.1.root
    → t3 ≡ t2 ++ forest_text false n.1.children → t4 ≡ t3 ++ codes "]}}"
    → t4 ≡ front ++ listed false (map named_text (map g (xs ++ x ∷ [])))
child_more g xs x n later front t0 t1 t2 t3 t4 same e o e1 e2 e3 e4 =
    listed_one named_text (map g xs) n later front t0 t4 (e ∙ sym (some_in-map g xs)) o
    (e4 ∙ ap (λ z. z ++ codes "]}}") (e3 ∙ ap (λ z. z ++ forest_text false n.1.children) (e2 ∙ ap (λ z. z ++ node_text n.1.root) e1))
    ∙ joined_up t0 (comma_if later) (name_text n.0) (node_text n.1.root) (forest_text false n.1.children) (codes "]}}"))
    ∙ ap (λ ys. front ++ listed false (map named_text ys)) (ap (λ z. map g xs ++ z ∷ []) (sym same) ∙ sym (map-append g xs (x ∷ [])))
