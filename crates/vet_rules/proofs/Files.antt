-- What was read of lines is what they say.
use Rattle.std.proofs.Common.{◌≡◌, ◌≢◌, ℕ, zero, suc, ◌+◌, ◌<◌, ◌≤◌, Bor, Bool, true, false, cond, List, [], ◌∷◌, ◌++◌, map, length, get_or, drop, Option, Some, None, option_map, Result, Ok, Err, refl, sym, ap, subst, ◌∙◌, ◌⊎◌, inl, inr, arith, append_assoc, String, string_bytes}
use Rattle.std.specs.Prelude.{IfOk, IfErr, Vec, slice_index_or}
use Rattle.std.specs.declared.alloc.AllocError.{AllocError}
use Rattle.std.specs.declared.alloc.Global.{Global}
use Rattle.std.specs.Map.{lookup}
use Rattle.std.specs.Str.{bytes_eq}
use Rattle.std.proofs.lemmas.List.{append-nil, length-append, length-map, map-append}
use Rattle.std.proofs.lemmas.Slice.Eq.{bytes_eq-Decides}
use Rattle.vet_rules.specs.declared.error.Reason.{Reason}
use Rattle.vet_rules.specs.declared.error.Reason.TheVariants.{TooDeep}
use Rattle.vet_rules.specs.declared.error.RulesError.{RulesError}
use Rattle.vet_rules.specs.declared.error.RulesError.TheVariants.{NoMemory, Unreadable}
use Rattle.vet_rules.specs.declared.fault.Fault.{Fault}
use Rattle.vet_rules.specs.declared.findings.Numbered.{Numbered}
use Rattle.vet_rules.specs.declared.findings.Findings.{Findings}
use Rattle.vet_rules.specs.declared.rule.Rule.{Rule}
use Rattle.vet_rules.specs.declared.stop.Stop.{Stop}
use Rattle.vet_rules.specs.declared.stop.ReadError.TheVariants as errors
use Rattle.vet_rules.specs.Trees.{Tree}
use Rattle.vet_rules.specs.Grammar.{max_depth}
use Rattle.vet_rules.specs.Answers.{Fails}
use Rattle.vet_rules.specs.Rules.{IsLine, AreRules, no_more, skipped, taken, NoneNamed, AreApart, AreRead, rule_of}
use Rattle.vet_rules.specs.Faults.{IsLineFault, IsFaultOf, IsFaultAt, IsSyntaxError, IsRepeatAt, IsUnread, Placed, bare, number_named, Adds, nothing, a_rule, a_repeat, no_line, HasRead, none_yet, one_line, HasFaults}
use Rattle.vet_rules.specs.Findings.{numbered_of, rules_in, HasAdded, HasFound, IsOutcome}
use Rattle.vet_rules.proofs.Lines.{one_line as same_line}

-- ---- one line

not_ok : (s : Stop) (o : Option (List ℕ × Tree)) → ◌≡◌ {A = Result (Option (List ℕ × Tree)) Stop} (Ok o) (Err s) → ⊥
not_ok s o h = cc

pub line_fault : (number : ℕ) (line : List ℕ) (s : Stop) (f : Fault) → ((o : Option (List ℕ × Tree)) → IsLine max_depth line o → Fails {Y = Option (List ℕ × Tree)} (errors.Stopped s) (Ok o))
    → (s.reason ≢ TooDeep → (n : ℕ) (o : Option (List ℕ × Tree)) → IsLine n line o → ⊥) → IsLineFault line s → IsFaultAt number line s f → IsUnread number line f
line_fault number line s f only never fault at =
    (λ o d. not_ok s o (only o d), subst (λ (r : Reason). r ≢ TooDeep → (n : ℕ) (o : Option (List ℕ × Tree)) → IsLine n line o → ⊥) (sym at.2) never, (s, fault, at))

-- ---- many lines

abbrev pub list_of : Option (List ℕ × Tree) → List (List ℕ × Tree)
list_of None = []
list_of (Some r) = r ∷ []

-- what was read so far, and what is left
record Goes (lines left : List (List ℕ)) (front : List (List ℕ × Tree)) : Type 0 where
  pub found : (rs : List (List ℕ × Tree)) → AreRules max_depth left rs → AreRules max_depth lines (front ++ rs)
  pub only : (n : ℕ) (rs : List (List ℕ × Tree)) → AreRules n lines rs → (us : List (List ℕ × Tree)) × (rs ≡ front ++ us) × AreRules n left us

starts : (lines : List (List ℕ)) → Goes lines lines []
starts lines = record {
  found = λ rs d. d;
  only = λ n rs d. (rs, refl, d);
}

with_line : {line : List ℕ} {left : List (List ℕ)} {rs : List (List ℕ × Tree)} (r : Option (List ℕ × Tree)) → IsLine max_depth line r → AreRules max_depth left rs → AreRules max_depth (line ∷ left) (list_of r ++ rs)
with_line None l d = skipped l d
with_line (Some r) l d = taken l d

behind_line : {n : ℕ} {line : List ℕ} {left : List (List ℕ)} {ss : List (List ℕ × Tree)} (r : Option (List ℕ × Tree)) → IsLine max_depth line r → AreRules n (line ∷ left) ss → (us : List (List ℕ × Tree)) × (ss ≡ list_of r ++ us) × AreRules n left us
behind_line {n = n} {line = line} {ss = ss} r l (skipped k d) =
    (ss, ap (λ (o : Option (List ℕ × Tree)). list_of o ++ ss) (same_line n max_depth line None r k l), d)
behind_line {n = n} {line = line} r l (taken {r = q} {rs = rs} k d) =
    (rs, ap (λ (o : Option (List ℕ × Tree)). list_of o ++ rs) (same_line n max_depth line (Some q) r k l), d)

past_line : (lines : List (List ℕ)) (line : List ℕ) (left : List (List ℕ)) (front : List (List ℕ × Tree)) (r : Option (List ℕ × Tree)) → IsLine max_depth line r → Goes lines (line ∷ left) front → Goes lines left (front ++ list_of r)
past_line lines line left front r l g = record {
  found = λ rs d. subst (λ (us : List (List ℕ × Tree)). AreRules max_depth lines us) (sym (append_assoc front (list_of r) rs)) (g.found (list_of r ++ rs) (with_line r l d));
  only = λ n rs d.
      let o = g.only n rs d in
      let b = behind_line r l o.2 in
      (b.0, o.1 ∙ ap (λ (us : List (List ℕ × Tree)). front ++ us) b.1 ∙ sym (append_assoc front (list_of r) b.0), b.2);
}

all_found : (lines : List (List ℕ)) (front : List (List ℕ × Tree)) → Goes lines [] front → AreRules max_depth lines front
all_found lines front g = subst (λ (us : List (List ℕ × Tree)). AreRules max_depth lines us) (append-nil front) (g.found [] no_more)

nothing_left : {n : ℕ} {rs : List (List ℕ × Tree)} → AreRules n [] rs → rs ≡ []
nothing_left no_more = refl

only_these : (lines : List (List ℕ)) (front rs : List (List ℕ × Tree)) → Goes lines [] front → AreRules max_depth lines rs → front ≡ rs
only_these lines front rs g d =
    let o = g.only max_depth rs d in
    sym (o.1 ∙ ap (λ (us : List (List ℕ × Tree)). front ++ us) (nothing_left o.2) ∙ append-nil front)

no_rules : {n : ℕ} {line : List ℕ} {left : List (List ℕ)} {rs : List (List ℕ × Tree)} → ((o : Option (List ℕ × Tree)) → IsLine n line o → ⊥) → AreRules n (line ∷ left) rs → ⊥
no_rules h (skipped l d) = h None l
no_rules h (taken {r = r} l d) = h (Some r) l

-- ---- names

by_names : (b : Bool) (m : ℕ) (o : Option ℕ) → cond b (Some m) o ≡ None → (b ≡ false) × (o ≡ None)
by_names true m o e = absurd cc
by_names false m o e = (refl, e)

first_named : (name : List ℕ) (x : Placed) (rs : List Placed) → number_named name (x ∷ rs) ≡ cond (bytes_eq name x.1.0) (Some x.0) (number_named name rs)
first_named name x rs = by_condition (bytes_eq name x.1.0) refl
  where
    by_condition : (b : Bool) → bytes_eq name x.1.0 ≡ b → number_named name (x ∷ rs) ≡ cond b (Some x.0) (number_named name rs)
    by_condition true e = rw e refl
    by_condition false e = rw e refl

none_named : (name : List ℕ) (rs : List Placed) → number_named name rs ≡ None → NoneNamed name (bare rs)
none_named name [] e = tt
none_named name (x ∷ rs) e =
    let p = by_names (bytes_eq name x.1.0) x.0 (number_named name rs) (sym (first_named name x rs) ∙ e) in
    (λ same. let yes : bytes_eq name x.1.0 ≡ true = (bytes_eq-Decides name x.1.0).1 same in let both : true ≡ false = sym yes ∙ p.0 in absurd cc, none_named name rs p.1)

none_more : (name : List ℕ) (rs : List (List ℕ × Tree)) (r : List ℕ × Tree) → NoneNamed name rs → name ≢ r.0 → NoneNamed name (rs ++ r ∷ [])
none_more name [] r h other = (other, tt)
none_more name (q ∷ rs) r h other = (h.0, none_more name rs r h.1 other)

apart_more : (rs : List (List ℕ × Tree)) (r : List ℕ × Tree) → AreApart rs → NoneNamed r.0 rs → AreApart (rs ++ r ∷ [])
apart_more [] r a h = (tt, tt)
apart_more (q ∷ rs) r a h = (none_more q.0 rs r a.0 (λ same. h.0 (sym same)), apart_more rs r a.1 h.1)

none_inside : (name : List ℕ) (rs us : List (List ℕ × Tree)) (r : List ℕ × Tree) → NoneNamed name (rs ++ r ∷ us) → name ≢ r.0
none_inside name [] us r h = h.0
none_inside name (q ∷ rs) us r h = none_inside name rs us r h.1

named_again : (rs : List Placed) (r : List ℕ × Tree) (us : List (List ℕ × Tree)) (first : ℕ) → number_named r.0 rs ≡ Some first → AreApart (bare rs ++ r ∷ us) → ⊥
named_again [] r us first e a = cc
named_again (x ∷ rs) r us first e a = by_condition (bytes_eq r.0 x.1.0) refl (λ h. named_again rs r us first h a.1)
  where
    by_condition : (b : Bool) → bytes_eq r.0 x.1.0 ≡ b → (number_named r.0 rs ≡ Some first → ⊥) → ⊥
    by_condition true same k = none_inside x.1.0 (bare rs) us r a.0 (sym ((bytes_eq-Decides r.0 x.1.0).0 same))
    by_condition false other k = k (ap (λ (b : Bool). cond b (Some x.0) (number_named r.0 rs)) (sym other) ∙ sym (first_named r.0 x rs) ∙ e)

-- ---- lines up to a fault

drop_suc : (i : ℕ) (lines : List (List ℕ)) (line : List ℕ) (rest : List (List ℕ)) → drop i lines ≡ line ∷ rest → drop (suc i) lines ≡ rest
drop_suc zero [] line rest e = absurd cc
drop_suc zero (l ∷ lines) line rest e = cc
drop_suc (suc i) [] line rest e = absurd cc
drop_suc (suc i) (l ∷ lines) line rest e = drop_suc i lines line rest e

drop_next : (i : ℕ) (lines : List (List ℕ)) (line : List ℕ) (rest : List (List ℕ)) → drop i lines ≡ line ∷ rest → drop (i + 1) lines ≡ rest
drop_next i lines line rest e = let one : i + 1 ≡ suc i = omega arith in rw one (drop_suc i lines line rest e)

some_fault : (fs : List Fault) (f : Fault) → fs ++ f ∷ [] ≡ [] → ⊥
some_fault [] f e = cc
some_fault (g ∷ fs) f e = cc

goes_on : (lines : List (List ℕ)) (i : ℕ) (rs more : List Placed) (line : List ℕ) (rest : List (List ℕ)) (r : Option (List ℕ × Tree)) → drop i lines ≡ line ∷ rest → IsLine max_depth line r → bare more ≡ list_of r → Goes lines (drop i lines) (bare rs)
    → Goes lines (drop (i + 1) lines) (bare (rs ++ more))
goes_on lines i rs more line rest r at l e g =
    let next = past_line lines line rest (bare rs) r l (subst (λ (left : List (List ℕ)). Goes lines left (bare rs)) at g) in
    let front : bare (rs ++ more) ≡ bare rs ++ list_of r = map-append (λ (x : Placed). x.1) rs more ∙ ap (λ (us : List (List ℕ × Tree)). bare rs ++ us) e in
    subst (λ (left : List (List ℕ)). Goes lines left (bare (rs ++ more))) (sym (drop_next i lines line rest at)) (subst (λ (us : List (List ℕ × Tree)). Goes lines rest us) (sym front) next)

goes : {lines : List (List ℕ)} {i : ℕ} {rs : List Placed} {fs : List Fault} → HasRead lines i rs fs → fs ≡ [] → Goes lines (drop i lines) (bare rs)
goes {lines = lines} none_yet e = starts lines
goes {lines = lines} (one_line {i = i} {rs = rs} {fs = fs} {line = line} {rest = rest} at before (nothing l)) e = goes_on lines i rs [] line rest None at l refl (goes before (sym (append-nil fs) ∙ e))
goes {lines = lines} (one_line {i = i} {rs = rs} {fs = fs} {line = line} {rest = rest} at before (a_rule r l new)) e = goes_on lines i rs ((i + 1, r) ∷ []) line rest (Some r) at l refl (goes before (sym (append-nil fs) ∙ e))
goes (one_line {fs = fs} at before (a_repeat r first f l old h)) e = absurd (some_fault fs f e)
goes (one_line {fs = fs} at before (no_line f h)) e = absurd (some_fault fs f e)

apart : {lines : List (List ℕ)} {i : ℕ} {rs : List Placed} {fs : List Fault} → HasRead lines i rs fs → AreApart (bare rs)
apart none_yet = tt
apart (one_line {rs = rs} at before (nothing l)) = subst (λ us. AreApart (bare us)) (sym (append-nil rs)) (apart before)
apart (one_line {i = i} {rs = rs} at before (a_rule r l new)) = subst (λ us. AreApart us) (sym (map-append (λ (x : Placed). x.1) rs ((i + 1, r) ∷ []))) (apart_more (bare rs) r (apart before) (none_named r.0 rs new))
apart (one_line {rs = rs} at before (a_repeat r first f l old h)) = subst (λ us. AreApart (bare us)) (sym (append-nil rs)) (apart before)
apart (one_line {rs = rs} at before (no_line f h)) = subst (λ us. AreApart (bare us)) (sym (append-nil rs)) (apart before)

-- which depths a fault excludes
abbrev Excludes : Fault → ℕ → Type 0
Excludes f n = (n ≡ max_depth) ⊎ (f.reason ≢ TooDeep)

unread : (number n : ℕ) (line : List ℕ) (f : Fault) → IsUnread number line f → Excludes f n → (o : Option (List ℕ × Tree)) → IsLine n line o → ⊥
unread number n line f h (inl is) o d = h.0 o (subst (λ (m : ℕ). IsLine m line o) is d)
unread number n line f h (inr other) o d = h.1 other n o d

first_is : (f g : Fault) (fs gs : List Fault) → ◌≡◌ {A = List Fault} (f ∷ fs) (g ∷ gs) → f ≡ g
first_is f g fs gs e = cc

refused : {lines : List (List ℕ)} {i : ℕ} {rs : List Placed} {fs : List Fault} → HasRead lines i rs fs → (f : Fault) (others : List Fault) → fs ≡ f ∷ others → (n : ℕ) → Excludes f n → (ss : List (List ℕ × Tree)) → AreRules n lines ss → AreApart ss → ⊥
refused none_yet f others e n x ss d a = cc
refused (one_line {fs = g ∷ fs} {others = more} at before added) f others e n x ss d a =
    refused before g fs refl n (subst (λ (h : Fault). Excludes h n) (sym (first_is g f (fs ++ more) others e)) x) ss d a
refused (one_line {fs = []} at before (nothing l)) f others e n x ss d a = cc
refused (one_line {fs = []} at before (a_rule r l new)) f others e n x ss d a = cc
refused {lines = lines} (one_line {i = i} {rs = rs} {fs = []} {line = line} {rest = rest} at before (a_repeat r first g l old h)) f others e n x ss d a =
    let o = (goes before refl).only n ss d in
    let b = behind_line (Some r) l (subst (λ (left : List (List ℕ)). AreRules n left o.0) at o.2) in
    let whole : ss ≡ bare rs ++ r ∷ b.0 = o.1 ∙ ap (λ (us : List (List ℕ × Tree)). bare rs ++ us) b.1 in
    named_again rs r b.0 first old (subst AreApart whole a)
refused {lines = lines} (one_line {i = i} {rs = rs} {fs = []} {line = line} {rest = rest} at before (no_line g h)) f others e n x ss d a =
    let o = (goes before refl).only n ss d in
    no_rules (unread (i + 1) n line g h (subst (λ (k : Fault). Excludes k n) (sym (first_is g f [] others e)) x)) (subst (λ (left : List (List ℕ)). AreRules n left o.0) at o.2)

-- ---- borrowed lines

abbrev pub texts : List (Bor (List ℕ)) → List (List ℕ)
texts lines = map (λ (x : Bor (List ℕ)). x.now) lines

next_line : (lines : List (Bor (List ℕ))) (i : ℕ) (d : Bor (List ℕ)) → i < length lines → drop i (texts lines) ≡ (get_or lines i d).now ∷ drop (suc i) (texts lines)
next_line [] i d lt = absurd (omega arith)
next_line (l ∷ lines) zero d lt = refl
next_line (l ∷ lines) (suc i) d lt = next_line lines i d (omega arith)

none_behind : (lines : List (List ℕ)) (i : ℕ) → length lines ≤ i → drop i lines ≡ []
none_behind [] zero le = refl
none_behind [] (suc i) le = refl
none_behind (l ∷ lines) zero le = absurd (omega arith)
none_behind (l ∷ lines) (suc i) le = none_behind lines i (omega arith)

next_read : (lines : List (Bor (List ℕ))) (i : ℕ) (d : Bor (List ℕ)) (rs more : List Placed) (fs others : List Fault) → i < length lines → HasRead (texts lines) i rs fs → Adds (i + 1) (get_or lines i d).now rs more others
    → HasRead (texts lines) (i + 1) (rs ++ more) (fs ++ others)
next_read lines i d rs more fs others lt h a = one_line (next_line lines i d lt) h a

pub all_read : (lines : List (Bor (List ℕ))) (i most : ℕ) (findings : Findings) → length lines ≤ i → HasRead (texts lines) i (rules_in findings) findings.faults.items → length findings.faults.items ≤ most → HasFound most (texts lines) findings
all_read lines i most findings le h few = (i, h, λ lt. subst (λ (n : ℕ). n ≤ i) (sym (length-map lines (λ (x : Bor (List ℕ)). x.now))) le, few)

-- ---- what is made of the findings

module _ (lines : List (List ℕ)) (findings : Findings) (h : HasFound 1 lines findings) where
  none_left : findings.faults.items ≡ [] → drop h.0 lines ≡ []
  none_left e = none_behind lines h.0 (h.2 (omega (arith, ap length e)))

  ended : findings.faults.items ≡ [] → Goes lines [] (bare (rules_in findings))
  ended e = subst (λ (left : List (List ℕ)). Goes lines left (bare (rules_in findings))) (none_left e) (goes h.1 e)

  pub rules_found : (r : Result (Vec Rule Global) RulesError) → IsOutcome (rules_in findings) findings.faults.items r → IfOk r (λ v. AreRules max_depth lines (map rule_of v.items) × AreApart (map rule_of v.items))
  rules_found (Ok v) (e, same) =
      subst (λ (rs : List (List ℕ × Tree)). AreRules max_depth lines rs × AreApart rs) (sym same) (all_found lines (bare (rules_in findings)) (ended e), apart h.1)
  rules_found (Err x) o = tt

  pub rules_only : (r : Result (Vec Rule Global) RulesError) → IsOutcome (rules_in findings) findings.faults.items r → (rs : List (List ℕ × Tree)) → AreRules max_depth lines rs → AreApart rs → AreRead r rs
  rules_only (Ok v) (e, same) rs d a = same ∙ only_these lines (bare (rules_in findings)) rs (ended e) d
  rules_only (Err NoMemory) o rs d a = tt
  rules_only (Err (Unreadable f)) (others, e) rs d a = refused h.1 f others e max_depth (inl refl) rs d a

  pub rules_never : (r : Result (Vec Rule Global) RulesError) → IsOutcome (rules_in findings) findings.faults.items r → IfErr r (λ x. IsSyntaxError x → (n : ℕ) (rs : List (List ℕ × Tree)) → AreRules n lines rs → AreApart rs → ⊥)
  rules_never (Ok v) o = tt
  rules_never (Err NoMemory) o = λ bad. absurd bad
  rules_never (Err (Unreadable f)) (others, e) = λ other n rs d a. refused h.1 f others e n (inr other) rs d a

  pub rules_fault : (r : Result (Vec Rule Global) RulesError) → IsOutcome (rules_in findings) findings.faults.items r → IfErr r (IsFaultOf lines)
  rules_fault (Ok v) o = tt
  rules_fault (Err NoMemory) o = tt
  rules_fault (Err (Unreadable f)) (others, e) = (h.0, rules_in findings, others, subst (λ (fs : List Fault). HasRead lines h.0 (rules_in findings) fs) e h.1)

pub faults_found : (lines : List (List ℕ)) (findings : Findings) → HasFound 21 lines findings → HasFaults lines findings.faults.items
faults_found lines findings h = (h.0, rules_in findings, h.1, h.2, h.3)

-- ---- what a line adds

abbrev pub WithFault : Findings → Fault → Findings → Type 0
WithFault before f after = (after.rules ≡ before.rules) × (after.faults.items ≡ before.faults.items ++ f ∷ [])

abbrev pub WithRule : Findings → Placed → Findings → Type 0
WithRule before n after = (after.faults ≡ before.faults) × (rules_in after ≡ rules_in before ++ n ∷ [])

module _ (number : ℕ) (line : List ℕ) (before : Findings) where
  pub nothing_added : IsLine max_depth line None → HasAdded number line before before
  nothing_added l = ([], [], nothing l, sym (append-nil (rules_in before)), sym (append-nil before.faults.items))

  same_rules : (after : Findings) → after.rules ≡ before.rules → rules_in after ≡ rules_in before ++ []
  same_rules after e = ap (λ m. map numbered_of m.entries) e ∙ sym (append-nil (rules_in before))

  pub fault_added : (f : Fault) (r : Result Findings AllocError) → IsUnread number line f → IfOk r (WithFault before f) → IfOk r (HasAdded number line before)
  fault_added f (Ok after) u h = ([], f ∷ [], no_line f u, same_rules after h.0, h.1)
  fault_added f (Err e) u h = tt

  pub repeat_added : (rule : List ℕ × Tree) (first : ℕ) (f : Fault) (r : Result Findings AllocError) → IsLine max_depth line (Some rule) → number_named rule.0 (rules_in before) ≡ Some first → IsRepeatAt number first line rule.0 f → IfOk r (WithFault before f)
      → IfOk r (HasAdded number line before)
  repeat_added rule first f (Ok after) l old u h = ([], f ∷ [], a_repeat rule first f l old u, same_rules after h.0, h.1)
  repeat_added rule first f (Err e) l old u h = tt

  pub rule_added : (rule : List ℕ × Tree) (r : Result Findings AllocError) → IsLine max_depth line (Some rule) → number_named rule.0 (rules_in before) ≡ None → IfOk r (WithRule before (number, rule)) → IfOk r (HasAdded number line before)
  rule_added rule (Ok after) l new h = ((number, rule) ∷ [], [], a_rule rule l new, h.1, ap (λ (v : Vec Fault Global). v.items) h.0 ∙ sym (append-nil before.faults.items))
  rule_added rule (Err e) l new h = tt

-- the line of the rule that the map has for a name
pub line_found : (name : List ℕ) (es : List (String Global × Numbered)) → option_map (λ (n : Numbered). n.line) (lookup (λ k. bytes_eq name (string_bytes k)) es) ≡ number_named name (map numbered_of es)
line_found name [] = refl
line_found name (e ∷ es) = by_condition (bytes_eq name (string_bytes e.0)) refl (line_found name es)
  where
    by_condition : (b : Bool) → bytes_eq name (string_bytes e.0) ≡ b → option_map (λ (n : Numbered). n.line) (lookup (λ k. bytes_eq name (string_bytes k)) es) ≡ number_named name (map numbered_of es)
        → option_map (λ (n : Numbered). n.line) (lookup (λ k. bytes_eq name (string_bytes k)) (e ∷ es)) ≡ number_named name (map numbered_of (e ∷ es))
    by_condition true is h = rw is refl
    by_condition false is h = rw is h

none_mapped : (o : Option Numbered) → option_map (λ (n : Numbered). n.line) o ≡ None → o ≡ None
none_mapped None e = refl
none_mapped (Some n) e = absurd cc

pub not_found : (name : List ℕ) (es : List (String Global × Numbered)) → number_named name (map numbered_of es) ≡ None → lookup (λ k. bytes_eq name (string_bytes k)) es ≡ None
not_found name es e = none_mapped (lookup (λ k. bytes_eq name (string_bytes k)) es) (line_found name es ∙ e)

pub more_read : (lines : List (Bor (List ℕ))) (i : ℕ) (d : Bor (List ℕ)) (before after : Findings) → i < length lines → HasRead (texts lines) i (rules_in before) before.faults.items → HasAdded (i + 1) (get_or lines i d).now before after
    → HasRead (texts lines) (i + 1) (rules_in after) after.faults.items
more_read lines i d before after lt h (rs, fs, adds, e, g) =
    let next = next_read lines i d (rules_in before) rs before.faults.items fs lt h adds in
    subst (λ (us : List Placed). HasRead (texts lines) (i + 1) us after.faults.items) (sym e) (subst (λ (gs : List Fault). HasRead (texts lines) (i + 1) (rules_in before ++ rs) gs) (sym g) next)

-- a line has one fault at most
one_fault : {number : ℕ} {line : List ℕ} {rs more : List Placed} {fs : List Fault} → Adds number line rs more fs → length fs ≤ 1
one_fault (nothing l) = omega arith
one_fault (a_rule r l new) = omega arith
one_fault (a_repeat r first f l old u) = omega arith
one_fault (no_line f u) = omega arith

pub few_added : (number : ℕ) (line : List ℕ) (before after : Findings) → HasAdded number line before after → length after.faults.items ≤ length before.faults.items + 1
few_added number line before after (rs, fs, adds, e, g) = omega (arith, one_fault adds, ap length g ∙ length-append before.faults.items fs)

pub none_is : {A : Type 0} (xs : List A) → length xs ≡ 0 → xs ≡ []
none_is [] e = refl
none_is (x ∷ xs) e = cc

pub first_of : {A : Type 0} (xs : List A) (x : A) → 0 < length xs → x ≡ slice_index_or xs 0 x → (others : List A) × (xs ≡ x ∷ others)
first_of [] x lt e = absurd (omega arith)
first_of (y ∷ xs) x lt e = (xs, ap (λ z. z ∷ xs) (sym e))

pub bare_rules : (ns : List (String Global × Numbered)) → map (λ n. (numbered_of n).1) ns ≡ bare (map numbered_of ns)
bare_rules [] = refl
bare_rules (n ∷ ns) = ap (λ (rs : List (List ℕ × Tree)). (numbered_of n).1 ∷ rs) (bare_rules ns)
