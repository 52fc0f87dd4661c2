-- A token at the front of a text.
use Rattle.std.proofs.Common.{◌≡◌, ℕ, suc, ◌+◌, ◌<◌, ◌≤◌, Bool, true, false, cond, List, [], ◌∷◌, length, get_or, take, drop, Option, Some, None, Result, Ok, Err, refl, sym, ap, subst, ◌∙◌, arith, length-drop, drop-cons}
use Rattle.std.specs.Prelude.{◌&&◌, not, ◌==◌, option_map, option_and_then}
use Rattle.std.specs.List.{find, list_any, prefix_len}
use Rattle.std.specs.Str.{IsUtf8, is_utf8, chars, bytes_eq}
use Rattle.std.proofs.lemmas.Str.{IsUtf8-from_is_utf8, is_utf8-from_IsUtf8}
use Rattle.std.proofs.lemmas.Slice.Eq.{bytes_eq-Decides}
use Rattle.serde_json.specs.Data.{Num, unsigned, negative, float, Data, null, boolean, number, string, array, object}
use Rattle.serde_json.specs.Read.{read}
use Rattle.vet_rules.specs.declared.fixed.Fixed.{Fixed}
use Rattle.vet_rules.specs.declared.lexer.Class.{Class}
use Rattle.vet_rules.specs.declared.lexer.Class.TheVariants.{Letter, Digit, Symbol, Mark, Slash, Quote, Space, Name, Other}
use Rattle.vet_rules.specs.declared.error.Expected.{Expected}
use Rattle.vet_rules.specs.declared.error.Expected.TheVariants as expected
use Rattle.vet_rules.specs.declared.stop.Stop.{Stop}
use Rattle.vet_rules.specs.Literals.{Literal, Natural, Negative, Decimal, Text, Boolean}
use Rattle.vet_rules.specs.Literals.{Null}
use Rattle.vet_rules.specs.Signs as signs
use Rattle.vet_rules.specs.Signs.{Sign}
use Rattle.vet_rules.specs.Answers.{◌>>=◌}
use Rattle.vet_rules.specs.Lexemes.{text_of, all_fixed, fixed_at, class_of, continues, text_end, class_len, cut, data_of, IsTextOf, begins_literal, is_hidden, is_shown, is_path, pointer, IsWritten, fixed_text, literal, path}
use Rattle.vet_rules.specs.Scanning.{number_in, literal_in, literal_from, sign_or, literal_or, path_or, front_class, sign_in, with_word, token_at}
use Rattle.vet_rules.proofs.Loop.{ok_is}
use Rattle.vet_rules.proofs.Words.{read_back}

bytes_is : (a b : List ℕ) → bytes_eq a b ≡ true → a ≡ b
bytes_is a b h = (bytes_eq-Decides a b).0 h

pub utf8_is_false : (word : List ℕ) → (IsUtf8 word → ⊥) → is_utf8 word ≡ false
utf8_is_false word h = by_condition (is_utf8 word) refl
  where
    by_condition : (b : Bool) → is_utf8 word ≡ b → b ≡ false
    by_condition true e = absurd (h (IsUtf8-from_is_utf8 word e))
    by_condition false e = refl

-- ---- literals

pub literal_no_text : (word : List ℕ) → (IsUtf8 word → ⊥) → literal_from word ≡ None
unfolding literal_from
literal_no_text word h = rw (utf8_is_false word h) refl

pub literal_read : (word text : List ℕ) (d : Data) (v : Option Literal) → IsUtf8 word → text ≡ word → read text ≡ Some d → v ≡ literal_in text d → literal_from word ≡ v
unfolding literal_from
literal_read word text d v u same r e =
    let r' : read word ≡ Some d = subst (λ (w : List ℕ). read w ≡ Some d) same r in
    let e' : v ≡ literal_in word d = subst (λ (w : List ℕ). v ≡ literal_in w d) same e in
    rw (is_utf8-from_IsUtf8 word u, r') (sym e')

in_data : (word : List ℕ) (v : Literal) → IsTextOf v word → literal_in word (data_of v) ≡ Some v
in_data word (Natural n) h = refl
in_data word (Negative z) h = refl
in_data word (Decimal text x) h = ap (λ (w : List ℕ). Some (Decimal w x)) (sym h)
in_data word (Text text) h = refl
in_data word (Boolean b) h = refl
in_data word Null h = refl

pub some_is : {A : Type 0} (x y : A) → ◌≡◌ {A = Option A} (Some x) (Some y) → x ≡ y
some_is x y e = cc

-- JSON has these data for a literal that may be written so
abbrev IsReadAs : List ℕ → Data → Literal → Type 0
IsReadAs word d v = (d ≡ data_of v) × IsTextOf v word

of_number : (word : List ℕ) (n : Num) → IsReadAs word (number n) (number_in word n)
of_number word (unsigned n) = (refl, tt)
of_number word (negative z) = (refl, tt)
of_number word (float x) = (refl, refl)

of_data : (word : List ℕ) (d : Data) (v : Literal) → literal_in word d ≡ Some v → IsReadAs word d v
of_data word null v e = subst (IsReadAs word null) (some_is Null v e) (refl, tt)
of_data word (boolean b) v e = subst (IsReadAs word (boolean b)) (some_is (Boolean b) v e) (refl, tt)
of_data word (number n) v e = subst (IsReadAs word (number n)) (some_is (number_in word n) v e) (of_number word n)
of_data word (string text) v e = subst (IsReadAs word (string text)) (some_is (Text text) v e) (refl, tt)
of_data word (array ds) v e = absurd cc
of_data word (object ms) v e = absurd cc

-- what a literal is
value_found : (word : List ℕ) (v : Literal) → is_utf8 word ≡ true → read word ≡ Some (data_of v) → IsTextOf v word → literal_from word ≡ Some v
unfolding literal_from
value_found word v u r t = rw (u, r) (in_data word v t)

then_data : (word : List ℕ) (r : Option Data) (v : Literal) → option_and_then (literal_in word) r ≡ Some v → (r ≡ Some (data_of v)) × IsTextOf v word
then_data word (Some d) v e = let q = of_data word d v e in (ap (λ (x : Data). Some x) q.0, q.1)
then_data word None v e = absurd cc

literal_by : (word : List ℕ) (b : Bool) (r : Option Data) (v : Literal) → cond b (option_and_then (literal_in word) r) None ≡ Some v → (b ≡ true) × (r ≡ Some (data_of v)) × IsTextOf v word
literal_by word true r v e = let q = then_data word r v e in (refl, q.0, q.1)
literal_by word false r v e = absurd cc

value_is : (word : List ℕ) (v : Literal) → literal_from word ≡ Some v → (is_utf8 word ≡ true) × (read word ≡ Some (data_of v)) × IsTextOf v word
unfolding literal_from
value_is word v e = literal_by word (is_utf8 word) (read word) v e

-- ---- words of one token

pub text_shows : (word text : List ℕ) → IsUtf8 word → text ≡ word → list_any is_hidden (chars text) ≡ false → is_shown word ≡ true
unfolding is_shown
text_shows word text u same h = rw (is_utf8-from_IsUtf8 word u, subst (λ (w : List ℕ). list_any is_hidden (chars w) ≡ false) same h) refl

pub no_text_shows : (word : List ℕ) → (IsUtf8 word → ⊥) → is_shown word ≡ false
unfolding is_shown
no_text_shows word h = rw (utf8_is_false word h) refl

literal_token : (c : Class) (left : ℕ) (word : List ℕ) (v : Literal) → begins_literal c ≡ true → literal_from word ≡ Some v → sign_in c left word ≡ Ok (signs.Literal v)
unfolding sign_in
literal_token Digit left word v h e = rw e refl
literal_token Quote left word v h e = rw e refl
literal_token c left word v h e = absurd cc

path_in : (c : Class) (left : ℕ) (word : List ℕ) → c ≡ Slash → is_path word ≡ true → is_shown word ≡ true → sign_in c left word ≡ Ok (signs.Path (pointer word))
unfolding sign_in
path_in c left word s p u = rw s (by_conditions (is_path word) (is_shown word) p u)
  where
    by_conditions : (is shows : Bool) → is ≡ true → shows ≡ true → path_or left word is shows ≡ Ok (signs.Path (pointer word))
    by_conditions true true i h = refl
    by_conditions is shows i h = absurd cc

written_again : (left : ℕ) {t : Sign} {word : List ℕ} → IsWritten t word → sign_in (front_class word) left word ≡ Ok t
written_again left (fixed_text f) = (read_back f).2 left
written_again left (literal b bytes v h u r t) = literal_token (class_of b) left (b ∷ bytes) v h (value_found (b ∷ bytes) v u r t)
written_again left (path b bytes s p u) = path_in (class_of b) left (b ∷ bytes) s p u

found_now : (p : Fixed → Bool) (g : Fixed) (fs : List Fixed) (f : Fixed) (t : Bool) → p g ≡ t → cond t (Some g) (find p fs) ≡ Some f → (find p fs ≡ Some f → p f ≡ true) → p f ≡ true
found_now p g fs f true e k h = let same : g ≡ f = cc in subst (λ (x : Fixed). p x ≡ true) same e
found_now p g fs f false e k h = h k

find_passes : (p : Fixed → Bool) (fs : List Fixed) (f : Fixed) → find p fs ≡ Some f → p f ≡ true
find_passes p [] f h = absurd cc
find_passes p (g ∷ fs) f h = found_now p g fs f (p g) refl h (λ k. find_passes p fs f k)

fixed_is : (word : List ℕ) (f : Fixed) → fixed_at word ≡ Some f → text_of f ≡ word
unfolding fixed_at
fixed_is word f h = bytes_is (text_of f) word (find_passes (λ g. bytes_eq (text_of g) word) all_fixed f h)

word_is : (left : ℕ) (word : List ℕ) (t : Sign) (o : Option Fixed) → fixed_at word ≡ o → sign_or left o ≡ Ok t → IsWritten t word
word_is left word t None e h = absurd cc
word_is left word t (Some f) e h =
    subst (λ (s : Sign). IsWritten s word) (ok_is (signs.Word f) t h) (subst (λ (w : List ℕ). IsWritten (signs.Word f) w) (fixed_is word f e) (fixed_text f))

literal_is : (x : Expected) (left b : ℕ) (bytes : List ℕ) (t : Sign) (o : Option Literal) → begins_literal (class_of b) ≡ true → literal_from (b ∷ bytes) ≡ o → literal_or x left o ≡ Ok t → IsWritten t (b ∷ bytes)
literal_is x left b bytes t None c e h = absurd cc
literal_is x left b bytes t (Some v) c e h =
    let q = value_is (b ∷ bytes) v e in
    subst (λ (s : Sign). IsWritten s (b ∷ bytes)) (ok_is (signs.Literal v) t h) (literal b bytes v c q.0 q.1 q.2)

path_is : (left b : ℕ) (bytes : List ℕ) (t : Sign) (p u : Bool) → class_of b ≡ Slash → is_path (b ∷ bytes) ≡ p → is_shown (b ∷ bytes) ≡ u → path_or left (b ∷ bytes) p u ≡ Ok t → IsWritten t (b ∷ bytes)
path_is left b bytes t true true c i e h = subst (λ (s : Sign). IsWritten s (b ∷ bytes)) (ok_is (signs.Path (pointer (b ∷ bytes))) t h) (path b bytes c i e)
path_is left b bytes t true false c i e h = absurd cc
path_is left b bytes t false u c i e h = absurd cc

written_by : (c : Class) (left b : ℕ) (bytes : List ℕ) (t : Sign) → class_of b ≡ c → sign_in c left (b ∷ bytes) ≡ Ok t → IsWritten t (b ∷ bytes)
unfolding sign_in
written_by Letter left b bytes t c h = word_is left (b ∷ bytes) t (fixed_at (b ∷ bytes)) refl h
written_by Symbol left b bytes t c h = word_is left (b ∷ bytes) t (fixed_at (b ∷ bytes)) refl h
written_by Mark left b bytes t c h = word_is left (b ∷ bytes) t (fixed_at (b ∷ bytes)) refl h
written_by Digit left b bytes t c h = literal_is expected.Number left b bytes t (literal_from (b ∷ bytes)) (ap begins_literal c) refl h
written_by Quote left b bytes t c h = literal_is expected.Escapes left b bytes t (literal_from (b ∷ bytes)) (ap begins_literal c) refl h
written_by Slash left b bytes t c h = path_is left b bytes t (is_path (b ∷ bytes)) (is_shown (b ∷ bytes)) c refl refl h
written_by c left b bytes t d h = absurd cc

written_is : (left : ℕ) (word : List ℕ) (t : Sign) → sign_in (front_class word) left word ≡ Ok t → IsWritten t word
unfolding sign_in
written_is left [] t h = absurd cc
written_is left (b ∷ bytes) t h = written_by (class_of b) left b bytes t refl h

-- ---- the front of a text

sign_ok : (r : Result Sign Stop) (rest : List ℕ) (x : Sign × List ℕ) → (r >>= λ t. Ok (t, rest)) ≡ Ok x → (r ≡ Ok x.0) × (rest ≡ x.1)
sign_ok (Ok t) rest x h = let same : (t, rest) ≡ x = ok_is (t, rest) x h in (ap (λ (y : Sign × List ℕ). Ok y.0) same, ap (λ (y : Sign × List ℕ). y.1) same)
sign_ok (Err s) rest x h = absurd cc

pub token_again : (text : List ℕ) (t : Sign) (word rest : List ℕ) → cut text ≡ Some (word, rest) → IsWritten t word → token_at text ≡ Ok (t, rest)
unfolding token_at
token_again text t word rest c w = rw (c, written_again (length text) w) refl

abbrev pub Found : List ℕ → Sign → List ℕ → Type 0
Found text t rest = (word : List ℕ) × (cut text ≡ Some (word, rest)) × IsWritten t word

found_by : (text : List ℕ) (t : Sign) (rest : List ℕ) (o : Option (List ℕ × List ℕ)) → cut text ≡ o → with_word (length text) o ≡ Ok (t, rest) → Found text t rest
found_by text t rest None c h = absurd cc
found_by text t rest (Some x) c h =
    let p = sign_ok (sign_in (front_class x.0) (length text) x.0) x.1 (t, rest) h in
    (x.0, c ∙ ap (λ (us : List ℕ). Some (x.0, us)) p.1, written_is (length text) x.0 t p.0)

pub token_found : (text : List ℕ) (t : Sign) (rest : List ℕ) → token_at text ≡ Ok (t, rest) → Found text t rest
unfolding token_at
token_found text t rest h = found_by text t rest (cut text) refl h

-- ---- a token takes bytes

len_by : (o : Option ℕ) (n : ℕ) → option_map suc o ≡ Some n → (m : ℕ) × (n ≡ suc m)
len_by (Some m) n e = (m, sym (some_is (suc m) n e))
len_by None n e = absurd cc

len_some : (c : Class) (text : List ℕ) (n : ℕ) → class_len c text ≡ Some n → (m : ℕ) × (n ≡ suc m)
len_some Quote text n e = len_by (text_end false text) n e
len_some Letter text n e = (prefix_len (continues Letter) text, sym (some_is _ n e))
len_some Digit text n e = (prefix_len (continues Digit) text, sym (some_is _ n e))
len_some Symbol text n e = (prefix_len (continues Symbol) text, sym (some_is _ n e))
len_some Mark text n e = (prefix_len (continues Mark) text, sym (some_is _ n e))
len_some Slash text n e = (prefix_len (continues Slash) text, sym (some_is _ n e))
len_some Space text n e = (prefix_len (continues Space) text, sym (some_is _ n e))
len_some Name text n e = (prefix_len (continues Name) text, sym (some_is _ n e))
len_some Other text n e = (prefix_len (continues Other) text, sym (some_is _ n e))

dropped : (text : List ℕ) (n : ℕ) → length (drop n text) ≤ length text
dropped text n = omega (arith, length-drop n text)

cut_by : (b : ℕ) (text : List ℕ) (o : Option ℕ) (x : List ℕ × List ℕ) → ((n : ℕ) → o ≡ Some n → (m : ℕ) × (n ≡ suc m)) → option_map (λ n. (take n (b ∷ text), drop n (b ∷ text))) o ≡ Some x → length x.1 < length (b ∷ text)
cut_by b text None x h e = absurd cc
cut_by b text (Some n) x h e =
    let m = h n refl in
    let same : (take n (b ∷ text), drop n (b ∷ text)) ≡ x = some_is (take n (b ∷ text), drop n (b ∷ text)) x e in
    let d = dropped text m.0 in
    let rest : drop (suc m.0) (b ∷ text) ≡ x.1 = subst (λ (k : ℕ). drop k (b ∷ text) ≡ x.1) m.1 (ap (λ (y : List ℕ × List ℕ). y.1) same) in
    omega (arith, ap length rest)

cut_shortens : (b : ℕ) (text : List ℕ) (x : List ℕ × List ℕ) → cut (b ∷ text) ≡ Some x → length x.1 < length (b ∷ text)
unfolding cut
cut_shortens b text x e = cut_by b text (class_len (class_of b) text) x (λ n. len_some (class_of b) text n) e

no_token : (t : Sign) (rest : List ℕ) → token_at [] ≡ Ok (t, rest) → ⊥
unfolding token_at cut sign_in
no_token t rest h = cc

pub shorter : (text : List ℕ) (t : Sign) (rest : List ℕ) → token_at text ≡ Ok (t, rest) → length rest < length text
shorter [] t rest h = absurd (no_token t rest h)
shorter (b ∷ text) t rest h = let f = token_found (b ∷ text) t rest h in cut_shortens b text (f.0, rest) f.1

-- ---- a quote that closes a text

end_step : (text : List ℕ) (i : ℕ) (escaped : Bool) → i < length text
    → text_end escaped (drop i text) ≡ cond (not escaped && (get_or text i 0 == 34)) (Some 1) (option_map suc (text_end (not escaped && (get_or text i 0 == 92)) (drop (suc i) text)))
end_step text i escaped lt = ap (text_end escaped) (drop-cons text i 0 lt)

move_on : (i : ℕ) (o : Option ℕ) → option_map (λ n. i + n) (option_map suc o) ≡ option_map (λ n. suc i + n) o
move_on i (Some n) = ap (λ (k : ℕ). Some k) (omega arith)
move_on i None = refl

pub end_goes : (text : List ℕ) (i : ℕ) (escaped next : Bool) (total : Option ℕ) → i < length text → (not escaped && (get_or text i 0 == 34)) ≡ false → next ≡ (not escaped && (get_or text i 0 == 92))
    → option_map (λ n. i + n) (text_end escaped (drop i text)) ≡ total → option_map (λ n. (i + 1) + n) (text_end next (drop (i + 1) text)) ≡ total
end_goes text i escaped next total lt p q h =
    let one : i + 1 ≡ suc i = omega arith in
    let step : text_end escaped (drop i text) ≡ option_map suc (text_end next (drop (suc i) text)) = end_step text i escaped lt ∙ rw (p, q) refl in
    subst (λ (k : ℕ). option_map (λ n. k + n) (text_end next (drop k text)) ≡ total) (sym one) (sym (move_on i (text_end next (drop (suc i) text))) ∙ ap (option_map (λ n. i + n)) (sym step) ∙ h)

-- ---- a byte that begins no token

len_of_other : (c : Class) (text : List ℕ) → c ≡ Other → class_len c text ≡ Some 1
len_of_other c text e = rw e (no_run text)
  where
    no_run : (text : List ℕ) → class_len Other text ≡ Some 1
    no_run [] = refl
    no_run (b ∷ text) = refl

no_sign_in : (c : Class) (left : ℕ) (word rest : List ℕ) (x : Sign × List ℕ) → c ≡ Other → (sign_in c left word >>= λ t. Ok (t, rest)) ≡ Ok x → ⊥
unfolding sign_in
no_sign_in c left word rest x e h = let h' : (sign_in Other left word >>= λ t. Ok (t, rest)) ≡ Ok x = subst (λ (k : Class). (sign_in k left word >>= λ t. Ok (t, rest)) ≡ Ok x) e h in cc

pub no_sign : (b : ℕ) (text : List ℕ) (x : Sign × List ℕ) → class_of b ≡ Other → token_at (b ∷ text) ≡ Ok x → ⊥
unfolding token_at cut
no_sign b text x c h =
    let h' : with_word (length (b ∷ text)) (option_map (λ n. (take n (b ∷ text), drop n (b ∷ text))) (Some 1)) ≡ Ok x =
    subst (λ (o : Option ℕ). with_word (length (b ∷ text)) (option_map (λ n. (take n (b ∷ text), drop n (b ∷ text))) o) ≡ Ok x) (len_of_other (class_of b) text c) h in
    no_sign_in (class_of b) (length (b ∷ text)) (b ∷ take 0 text) (drop 0 text) x c h'
