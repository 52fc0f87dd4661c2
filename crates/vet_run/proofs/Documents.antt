-- The document that readers of JUnit take, written piece by piece.
use Rattle.std.proofs.Common.{◌≡◌, ℕ, ◌+◌, ◌<◌, suc, List, [], ◌∷◌, ◌++◌, map, drop, get_or, length, ap, sym, ◌∙◌, append_assoc, add-one, drop-cons, Bool, codes, subst}
use Rattle.std.specs.Prelude.{slice_index}
use Rattle.std.proofs.lemmas.List.{length-map}
use Rattle.vet_checks.specs.RuleChecks.{name_of}
use Rattle.vet_run.specs.JUnit.{errors, failures, files_text, head_text, lines_text, rule_text, rules_text, document_text}
use Rattle.vet_checks.specs.declared.rule_check.RuleCheck.{RuleCheck}

joined_three : (t a b c : List ℕ) → ((t ++ a) ++ b) ++ c ≡ t ++ (a ++ (b ++ c))
joined_three t a b c = simp append_assoc

pub three : (t0 t1 t2 t3 a b c : List ℕ) → t1 ≡ t0 ++ a → t2 ≡ t1 ++ b → t3 ≡ t2 ++ c → t3 ≡ t0 ++ (a ++ (b ++ c))
three t0 t1 t2 t3 a b c e1 e2 e3 = e3 ∙ ap (λ z. z ++ c) (e2 ∙ ap (λ z. z ++ b) e1) ∙ joined_three t0 a b c

joined_four : (t a b c d : List ℕ) → (((t ++ a) ++ b) ++ c) ++ d ≡ t ++ (a ++ (b ++ (c ++ d)))
joined_four t a b c d = simp append_assoc

pub four : (t0 t1 t2 t3 t4 a b c d : List ℕ) → t1 ≡ t0 ++ a → t2 ≡ t1 ++ b → t3 ≡ t2 ++ c → t4 ≡ t3 ++ d → t4 ≡ t0 ++ (a ++ (b ++ (c ++ d)))
four t0 t1 t2 t3 t4 a b c d e1 e2 e3 e4 =
    e4 ∙ ap (λ z. z ++ d) (e3 ∙ ap (λ z. z ++ c) (e2 ∙ ap (λ z. z ++ b) e1)) ∙ joined_four t0 a b c d

joined_five : (t a b c d e : List ℕ) → ((((t ++ a) ++ b) ++ c) ++ d) ++ e ≡ t ++ (a ++ (b ++ (c ++ (d ++ e))))
joined_five t a b c d e = simp append_assoc

pub five : (t0 t1 t2 t3 t4 t5 a b c d e : List ℕ) → t1 ≡ t0 ++ a → t2 ≡ t1 ++ b → t3 ≡ t2 ++ c → t4 ≡ t3 ++ d → t5 ≡ t4 ++ e → t5 ≡ t0 ++ (a ++ (b ++ (c ++ (d ++ e))))
five t0 t1 t2 t3 t4 t5 a b c d e e1 e2 e3 e4 e5 =
    e5 ∙ ap (λ z. z ++ e) (e4 ∙ ap (λ z. z ++ d) (e3 ∙ ap (λ z. z ++ c) (e2 ∙ ap (λ z. z ++ b) e1))) ∙ joined_five t0 a b c d e

-- the test case of one rule more is written before those of the others
pub rule_more : (rules : List RuleCheck) (i : ℕ) (r : RuleCheck) (counts : List ℕ) (blocks : List (List ℕ)) (old new whole : List ℕ)
    → i < length rules → r ≡ get_or rules i r
    → old ++ rules_text i (map name_of (drop i rules)) counts blocks ≡ whole
    → new ≡ old ++ rule_text (name_of r) (slice_index counts i) (get_or blocks i [])
    → new ++ rules_text (i + 1) (map name_of (drop (i + 1) rules)) counts blocks ≡ whole
rule_more rules i r counts blocks old new whole within is so_far e =
    let one : List ℕ = rule_text (name_of r) (slice_index counts i) (get_or blocks i []) in
    let others : List ℕ = rules_text (i + 1) (map name_of (drop (i + 1) rules)) counts blocks in
    let split : drop i rules ≡ r ∷ drop (i + 1) rules = drop-cons rules i r within ∙ ap (λ z. z ∷ drop (suc i) rules) (sym is) ∙ ap (λ n. r ∷ drop n rules) (sym (add-one i)) in
    ap (λ z. z ++ others) e ∙ append_assoc old one others
    ∙ ap (λ rs. old ++ rules_text i (map name_of rs) counts blocks) (sym split) ∙ so_far

-- the whole document, where nothing stands before it
pub whole_document : (name : List ℕ) (rules : List RuleCheck) (counts : List ℕ) (blocks : List (List ℕ)) (unreadable : ℕ) (all_read : Bool) (t0 t1 t2 t3 t4 t5 : List ℕ)
    → t0 ≡ [] → t1 ≡ t0 ++ head_text name (length rules + errors unreadable all_read) (failures counts) (errors unreadable all_read)
    → t2 ≡ t1 ++ rules_text 0 (map name_of rules) counts blocks → t3 ≡ t2 ++ lines_text unreadable → t4 ≡ t3 ++ files_text all_read
    → t5 ≡ t4 ++ codes "</testsuite>\n</testsuites>\n"
    → t5 ≡ document_text name (map name_of rules) counts blocks unreadable all_read
unfolding document_text
whole_document name rules counts blocks unreadable all_read t0 t1 t2 t3 t4 t5 none e1 e2 e3 e4 e5 =
    let head : ℕ → List ℕ = λ n. head_text name (n + errors unreadable all_read) (failures counts) (errors unreadable all_read) in
    five t0 t1 t2 t3 t4 t5 (head (length (map name_of rules))) _ _ _ _ (subst (λ n. t1 ≡ t0 ++ head n) (sym (length-map rules name_of)) e1) e2 e3 e4 e5
    ∙ ap (λ z. z ++ document_text name (map name_of rules) counts blocks unreadable all_read) none
