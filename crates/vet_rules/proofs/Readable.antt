-- What is read can be written.
use Rattle.std.proofs.Common.{◌≡◌, ℕ, zero, suc, ◌+◌, ◌<◌, ◌≤◌, ◌^◌, pos, negsuc, Bool, true, false, cond, List, [], ◌∷◌, map, length, take, drop, Option, Some, None, option_map, inl, inr, ◌⊎◌, refl, sym, ap, ◌∙◌, subst, arith, IsUtf8}
use Rattle.std.specs.Prelude.{Float, neg_ℤ, not, ◌&&◌, ◌||◌, ◌==◌, nat_lt, nat_le, nat_eq, ◌-◌, slice_index, option_and_then}
use Rattle.std.specs.List.{prefix_len, list_all, list_any, starts_with}
use Rattle.std.specs.Str.{is_utf8, chars}
use Rattle.std.proofs.lemmas.Option.{cond_some}
use Rattle.std.specs.Float.{binary64, float_is_finite}
use Rattle.std.proofs.lemmas.Bool.{ltb-true, leb-true, eqb-true, ne_eqb, and_parts}
use Rattle.std.proofs.lemmas.Str.{IsUtf8-from_is_utf8}
use Rattle.std.specs.Float.Numeral.{minus, Parts, scan_numeral as scan, numeral_digits as digits_of, nearest_float as nearest}
use Rattle.json.specs.Token.{Token}
use Rattle.json.specs.Text.{content, plain}
use Rattle.json.specs.Word.{word, head, after_number, number_before, ends_word, literal as literal_token}
use Rattle.json.specs.Ascii.{true_text, false_text, null_text}
use Rattle.json.specs.Lex.{Lexeme, Place, fresh, after_value, between, lex, in_word, in_string, begins_colon, place_token, punctuate, string_token, tokens, class, other}
use Rattle.json.specs.Json as json
use Rattle.json.specs.Json.{value, if_last}
use Rattle.serde_json.specs.Data.{Num, unsigned, negative, float, Data, number, string, array, object, Items, Members, no_members}
use Rattle.serde_json.specs.Read.{read, of_json, of_items, of_members, number_of, number_from, float_of, is_integer, max_depth}
use Rattle.vet_rules.specs.declared.lexer.Class.{Class}
use Rattle.vet_rules.specs.declared.lexer.Class.TheVariants.{Letter, Digit, Symbol, Mark, Slash, Quote, Other}
use Rattle.vet_rules.specs.declared.condition.ValueKind.TheVariants as value_kinds
use Rattle.vet_rules.specs.declared.fixed.Fixed.TheVariants as fixed
use Rattle.vet_rules.specs.Literals.{Literal, Natural, Negative, Decimal, Text, Boolean}
use Rattle.vet_rules.specs.Literals.{Null}
use Rattle.vet_rules.specs.Signs as signs
use Rattle.vet_rules.specs.Signs.{Sign}
use Rattle.vet_rules.specs.Lexemes.{is_hidden, is_letter, is_digit, is_symbol, is_mark, class_of, continues, class_len, cut, is_shown, is_path, data_of, IsTextOf, begins_literal, pointer, IsWritten, fixed_text, literal, path, IsLexed, over, space, token}
use Rattle.vet_rules.specs.Printing.{is_bare, IsPath, IsBarePath, IsDecimal, IsLiteral}
use Rattle.vet_rules.specs.Grammar.{path_in, value_in, text_in}
use Rattle.vet_rules.proofs.Lexed.{some_is}
use Rattle.vet_rules.proofs.Contents.{content_text, past_ascii}
use Rattle.vet_rules.proofs.Words.{is_run}
use Rattle.vet_rules.proofs.Spaced.{run_len, or_parted}
use Rattle.vet_rules.proofs.Bare.{nothing_is_bare, caret_is_bare}

-- ---- numbers that JSON reads

abbrev IsNumber : Num → Type 0
IsNumber (unsigned n) = n < 2 ^ 64
IsNumber (negative (pos n)) = ⊥
IsNumber (negative (negsuc n)) = n < 2 ^ 63
IsNumber (float x) = Unit {0}

abbrev MayBe : Option Num → Type 0
MayBe None = Unit {0}
MayBe (Some n) = IsNumber n

either_number : (b : Bool) (x y : Option Num) → MayBe x → MayBe y → MayBe (cond b x y)
either_number true x y p q = p
either_number false x y p q = q

a_float : (b : Bool) (x : Float) → MayBe (cond b (Some (float x)) None)
a_float true x = tt
a_float false x = tt

an_unsigned : (whole fits : Bool) (n : ℕ) (rest : Option Num) → (fits ≡ true → n < 2 ^ 64) → MayBe rest → MayBe (cond (whole && fits) (Some (unsigned n)) rest)
an_unsigned true true n rest h r = h refl
an_unsigned true false n rest h r = r
an_unsigned false fits n rest h r = r

negative_zero : (whole fits : Bool) (z : Option Num) (rest : Option Num) → MayBe rest → MayBe (cond (whole && false && fits) z rest)
negative_zero true fits z rest r = r
negative_zero false fits z rest r = r

a_negative : (some fits : Bool) (n : ℕ) (rest : Option Num) → (fits ≡ true → n < 2 ^ 63) → MayBe rest → MayBe (cond (some && fits) (Some (negative (negsuc n))) rest)
a_negative true true n rest h r = h refl
a_negative true false n rest h r = r
a_negative false fits n rest h r = r

negative_by : (whole : Bool) (n : ℕ) (rest : Option Num) → MayBe rest → MayBe (cond (whole && nat_lt 0 n && nat_le n (2 ^ 63)) (Some (negative (neg_ℤ (pos n)))) rest)
negative_by whole zero rest r = negative_zero whole (nat_le zero (2 ^ 63)) (Some (negative (neg_ℤ (pos zero)))) rest r
negative_by whole (suc n) rest r = a_negative (whole && nat_lt 0 (suc n)) (nat_le (suc n) (2 ^ 63)) n rest (λ e. omega (arith, leb-true (suc n) (2 ^ 63) e)) r

from_parts : (sign : Bool) (p : Parts) → MayBe (number_from sign p)
from_parts false p = an_unsigned (is_integer p) (nat_lt (digits_of p) (2 ^ 64)) (digits_of p) (float_of false p) (ltb-true (digits_of p) (2 ^ 64)) (a_float (float_is_finite (nearest binary64 false p)) (nearest binary64 false p))
from_parts true p = negative_by (is_integer p) (digits_of p) (float_of true p) (a_float (float_is_finite (nearest binary64 true p)) (nearest binary64 true p))

of_text : (s : List ℕ) → MayBe (number_of s)
unfolding number_of
of_text s = either_number (slice_index s 0 == minus) (number_from true (scan (drop 1 s))) (number_from false (scan s)) (from_parts true (scan (drop 1 s))) (from_parts false (scan s))

mapped : (o : Option Num) (m : Num) → MayBe o → option_map number o ≡ Some (number m) → IsNumber m
mapped None m h e = absurd cc
mapped (Some n) m h e = let same : n ≡ m = cc in subst IsNumber same h

no_array : (o : Option Items) (m : Num) → option_map array o ≡ Some (number m) → ⊥
no_array None m e = cc
no_array (Some x) m e = cc

no_object : (o : Option Members) (m : Num) → option_map object o ≡ Some (number m) → ⊥
no_object None m e = cc
no_object (Some x) m e = cc

number_json : (j : json.Json) (m : Num) → of_json j ≡ Some (number m) → IsNumber m
number_json json.null m e = absurd cc
number_json (json.boolean b) m e = absurd cc
number_json (json.number s) m e = mapped (number_of s) m (of_text s) e
number_json (json.string s) m e = absurd cc
number_json (json.array js) m e = absurd (no_array (of_items js) m e)
number_json (json.object ms) m e = absurd (no_object (of_members ms no_members) m e)

then_number : (o : Option json.Json) (m : Num) → option_and_then of_json o ≡ Some (number m) → IsNumber m
then_number None m e = absurd cc
then_number (Some j) m e = number_json j m e

read_number : (text : List ℕ) (m : Num) → read text ≡ Some (number m) → IsNumber m
read_number text m e = then_number (option_and_then (λ p. if_last p.0 p.1) (value max_depth (tokens text))) m e

-- ---- what JSON reads behind a quote, and behind a digit

-- the value that a first token and the rest are
abbrev read_tokens : List Token → Option Data
read_tokens ts = option_and_then of_json (option_and_then (λ p. if_last p.0 p.1) (value max_depth ts))

last_is : (j : json.Json) (ts : List Token) (d : Data) → option_and_then of_json (if_last j ts) ≡ Some d → of_json j ≡ Some d
last_is j [] d e = e
last_is j (t ∷ ts) d e = absurd cc

abbrev Quoted : Option (List ℕ) → Data → Type 0
Quoted o d = (s : List ℕ) × (o ≡ Some s) × (d ≡ string s)

quoted_first : (o : Option (List ℕ)) (colon : Bool) (k : Place → List Token) (d : Data) → read_tokens (place_token fresh (string_token o) colon k) ≡ Some d → Quoted o d
unfolding value
quoted_first None colon k d e = absurd cc
quoted_first (Some s) true k d e = absurd cc
quoted_first (Some s) false k d e = let same = last_is (json.string s) (k after_value) d e in (s, refl, sym (some_is (string s) d same))

read_quoted : (bytes : List ℕ) (d : Data) → read (34 ∷ bytes) ≡ Some d → Quoted (content plain bytes) d
unfolding lex punctuate
read_quoted bytes d e = quoted_first (content plain bytes) (begins_colon (lex in_string bytes)) (λ next. punctuate next (lex in_string bytes)) d e

-- no text in quotes
abbrev IsBare : Token → Type 0
IsBare (Token.number s) = Unit {0}
IsBare (Token.boolean b) = Unit {0}
IsBare Token.null = Unit {0}
IsBare Token.bad = Unit {0}
IsBare t = ⊥

either_bare : (b : Bool) (t u : Token) → IsBare t → IsBare u → IsBare (cond b t u)
either_bare true t u p q = p
either_bare false t u p q = q

number_bare : (t : List ℕ) (o : Option (List ℕ)) → IsBare (number_before t o)
number_bare t None = tt
number_bare t (Some rest) = either_bare (ends_word rest) (Token.number (take (length t - length rest) t)) Token.bad tt tt

word_bare : (t : List ℕ) → IsBare (word t)
unfolding word
word_bare t =
    either_bare (head t == 116) (literal_token true_text (Token.boolean true) t) (cond (head t == 102) (literal_token false_text (Token.boolean false) t) (cond (head t == 110) (literal_token null_text Token.null t) (number_before t (after_number t))))
    (either_bare (starts_with nat_eq t true_text && ends_word (drop (length true_text) t)) (Token.boolean true) Token.bad tt tt)
    (either_bare (head t == 102) (literal_token false_text (Token.boolean false) t) (cond (head t == 110) (literal_token null_text Token.null t) (number_before t (after_number t)))
    (either_bare (starts_with nat_eq t false_text && ends_word (drop (length false_text) t)) (Token.boolean false) Token.bad tt tt)
    (either_bare (head t == 110) (literal_token null_text Token.null t) (number_before t (after_number t)) (either_bare (starts_with nat_eq t null_text && ends_word (drop (length null_text) t)) Token.null Token.bad tt tt) (number_bare t (after_number t))))

no_text : (o : Option Num) (s : List ℕ) → option_map number o ≡ Some (string s) → ⊥
no_text None s e = cc
no_text (Some n) s e = cc

bare_first : (t : Token) (colon : Bool) (k : Place → List Token) (s : List ℕ) → IsBare t → read_tokens (place_token fresh t colon k) ≡ Some (string s) → ⊥
unfolding value
bare_first (Token.number w) colon k s h e = no_text (number_of w) s (last_is (json.number w) (k after_value) (string s) e)
bare_first (Token.boolean b) colon k s h e = let same = last_is (json.boolean b) (k after_value) (string s) e in cc
bare_first Token.null colon k s h e = let same = last_is json.null (k after_value) (string s) e in cc
bare_first Token.bad colon k s h e = cc
bare_first t colon k s h e = absurd h

-- the classes of bytes
by_digit : (a b c d e f : Bool) → cond a Letter (cond b Digit (cond c Symbol (cond d Mark (cond e Slash (cond f Quote Other))))) ≡ Digit → b ≡ true
by_digit true b c d e f h = absurd cc
by_digit false true c d e f h = refl
by_digit false false true d e f h = absurd cc
by_digit false false false true e f h = absurd cc
by_digit false false false false true f h = absurd cc
by_digit false false false false false true h = absurd cc
by_digit false false false false false false h = absurd cc

by_quote : (a b c d e f : Bool) → cond a Letter (cond b Digit (cond c Symbol (cond d Mark (cond e Slash (cond f Quote Other))))) ≡ Quote → f ≡ true
by_quote true b c d e f h = absurd cc
by_quote false true c d e f h = absurd cc
by_quote false false true d e f h = absurd cc
by_quote false false false true e f h = absurd cc
by_quote false false false false true f h = absurd cc
by_quote false false false false false true h = refl
by_quote false false false false false false h = absurd cc

quote_byte : (b : ℕ) → class_of b ≡ Quote → b ≡ 34
quote_byte b h = eqb-true b 34 (by_quote (is_letter b) (is_digit b || b == 45) (is_symbol b) (is_mark b) (b == 47 || b == 94) (b == 34) h)

digit_byte : (b : ℕ) → class_of b ≡ Digit → (45 ≤ b) × (b ≤ 57)
digit_byte b h = or_parted (is_digit b) (b == 45) (λ e. let p = and_parts (nat_le 48 b) (nat_le b 57) e in (omega (arith, leb-true 48 b p.0), leb-true b 57 p.1)) (λ e. let is = eqb-true b 45 e in (omega (arith, is), omega (arith, is)))
    (by_digit (is_letter b) (is_digit b || b == 45) (is_symbol b) (is_mark b) (b == 47 || b == 94) (b == 34) h)

digit_class : (b : ℕ) → (45 ≤ b) × (b ≤ 57) → class b ≡ other
digit_class b h =
    let low = h.0 in
    let high = h.1 in
    rw (
      ne_eqb b 34 (λ e. omega arith),
      ne_eqb b 92 (λ e. omega arith),
      ne_eqb b 123 (λ e. omega arith),
      ne_eqb b 125 (λ e. omega arith),
      ne_eqb b 91 (λ e. omega arith),
      ne_eqb b 93 (λ e. omega arith),
      ne_eqb b 58 (λ e. omega arith),
      ne_eqb b 44 (λ e. omega arith),
      ne_eqb b 32 (λ e. omega arith),
      ne_eqb b 9 (λ e. omega arith),
      ne_eqb b 10 (λ e. omega arith),
      ne_eqb b 13 (λ e. omega arith),
    ) refl

digit_lexed : (b : ℕ) (bytes : List ℕ) → class b ≡ other → lex between (b ∷ bytes) ≡ Lexeme.token (word (b ∷ bytes)) ∷ lex in_word bytes
unfolding lex
digit_lexed b bytes h = rw h refl

read_digits : (b : ℕ) (bytes s : List ℕ) → class_of b ≡ Digit → read (b ∷ bytes) ≡ Some (string s) → ⊥
unfolding punctuate
read_digits b bytes s h e =
    let first = digit_lexed b bytes (digit_class b (digit_byte b h)) in
    bare_first (word (b ∷ bytes)) (begins_colon (lex in_word bytes)) (λ next. punctuate next (lex in_word bytes)) s (word_bare (b ∷ bytes))
    (subst (λ ls. read_tokens (punctuate fresh ls) ≡ Some (string s)) first e)

-- ---- tokens

literal_class : (c : Class) → begins_literal c ≡ true → (c ≡ Digit) ⊎ (c ≡ Quote)
literal_class Digit h = inl refl
literal_class Quote h = inr refl
literal_class c h = absurd cc

text_literal : (b : ℕ) (bytes s : List ℕ) → (class_of b ≡ Digit) ⊎ (class_of b ≡ Quote) → is_utf8 (b ∷ bytes) ≡ true → read (b ∷ bytes) ≡ Some (string s) → IsUtf8 s
text_literal b bytes s (inl digit) u e = absurd (read_digits b bytes s digit e)
text_literal b bytes s (inr quote) u e =
    let is : b ≡ 34 = quote_byte b quote in
    let q = read_quoted bytes (string s) (subst (λ (x : ℕ). read (x ∷ bytes) ≡ Some (string s)) is e) in
    let same : string s ≡ string q.0 = q.2 in
    let whole : IsUtf8 (34 ∷ bytes) = subst (λ (x : ℕ). IsUtf8 (x ∷ bytes)) is (IsUtf8-from_is_utf8 (b ∷ bytes) u) in
    content_text bytes s (past_ascii 34 bytes (omega arith) whole) (q.1 ∙ ap (λ (t : List ℕ). Some t) (let e' : q.0 ≡ s = cc in e'))

no_decimal : (b : ℕ) (bytes : List ℕ) (x : Float) → (class_of b ≡ Digit) ⊎ (class_of b ≡ Quote) → read (b ∷ bytes) ≡ Some (number (float x)) → class_of b ≡ Digit
no_decimal b bytes x (inl digit) e = digit
no_decimal b bytes x (inr quote) e =
    let is : b ≡ 34 = quote_byte b quote in
    let q = read_quoted bytes (number (float x)) (subst (λ (y : ℕ). read (y ∷ bytes) ≡ Some (number (float x))) is e) in
    let same : number (float x) ≡ string q.0 = q.2 in
    absurd cc

prefix_by : (t : Bool) (p : ℕ → Bool) (x : ℕ) (xs : List ℕ) (k : ℕ) → p x ≡ t → list_all p (take k xs) ≡ true → list_all p (take (cond t (1 + k) 0) (x ∷ xs)) ≡ true
prefix_by true p x xs k e h =
    let one : 1 + k ≡ suc k = omega arith in
    subst (λ (m : ℕ). list_all p (take m (x ∷ xs)) ≡ true) (sym one) (rw (e, h) refl)
prefix_by false p x xs k e h = refl

all_prefix : (p : ℕ → Bool) (xs : List ℕ) → list_all p (take (prefix_len p xs) xs) ≡ true
all_prefix p [] = refl
all_prefix p (x ∷ xs) = prefix_by (p x) p x xs (prefix_len p xs) refl (all_prefix p xs)

abbrev cut_with : List ℕ → Option ℕ → Option (List ℕ × List ℕ)
cut_with text o = option_map {U = List ℕ × List ℕ} (λ n. (take n text, drop n text)) o

first_byte : (o : Option ℕ) (x b : ℕ) (xs bytes rest : List ℕ) → cut_with (x ∷ xs) o ≡ Some (b ∷ bytes, rest) → x ≡ b
first_byte None x b xs bytes rest e = absurd cc
first_byte (Some zero) x b xs bytes rest e =
    let same : ◌≡◌ {A = List ℕ} [] (b ∷ bytes) = ap (λ (y : List ℕ × List ℕ). y.0) (some_is {A = List ℕ × List ℕ} (take zero (x ∷ xs), drop zero (x ∷ xs)) (b ∷ bytes, rest) e) in
    absurd cc
first_byte (Some (suc n)) x b xs bytes rest e =
    let same : x ∷ take n xs ≡ b ∷ bytes = ap (λ (y : List ℕ × List ℕ). y.0) (some_is {A = List ℕ × List ℕ} (take (suc n) (x ∷ xs), drop (suc n) (x ∷ xs)) (b ∷ bytes, rest) e) in
    cc

run_bytes : (c : Class) (b : ℕ) (xs bytes rest : List ℕ) → is_run c ≡ true → cut_with (b ∷ xs) (class_len c xs) ≡ Some (b ∷ bytes, rest) → list_all (continues c) bytes ≡ true
run_bytes c b xs bytes rest r e =
    let k : ℕ = prefix_len (continues c) xs in
    let there : cut_with (b ∷ xs) (Some (suc k)) ≡ Some (b ∷ bytes, rest) = ap (cut_with (b ∷ xs)) (sym (run_len c xs r)) ∙ e in
    let same : b ∷ take k xs ≡ b ∷ bytes = ap (λ (y : List ℕ × List ℕ). y.0) (some_is {A = List ℕ × List ℕ} (take (suc k) (b ∷ xs), drop (suc k) (b ∷ xs)) (b ∷ bytes, rest) there) in
    let word_is : take k xs ≡ bytes = cc in
    subst (λ (w : List ℕ). list_all (continues c) w ≡ true) word_is (all_prefix (continues c) xs)

cut_bytes : (c : Class) (text : List ℕ) (b : ℕ) (bytes rest : List ℕ) → is_run c ≡ true → class_of b ≡ c → cut text ≡ Some (b ∷ bytes, rest) → list_all (continues c) bytes ≡ true
unfolding cut
cut_bytes c [] b bytes rest r is e =
    let same : ◌≡◌ {A = List ℕ} [] (b ∷ bytes) = ap (λ (y : List ℕ × List ℕ). y.0) (some_is {A = List ℕ × List ℕ} ([], []) (b ∷ bytes, rest) e) in
    absurd cc
cut_bytes c (x ∷ xs) b bytes rest r is e =
    let first : x ≡ b = first_byte (class_len (class_of x) xs) x b xs bytes rest e in
    run_bytes c b xs bytes rest r (subst (λ (k : Class). cut_with (b ∷ xs) (class_len k xs) ≡ Some (b ∷ bytes, rest)) is (subst (λ (y : ℕ). cut_with (y ∷ xs) (class_len (class_of y) xs) ≡ Some (b ∷ bytes, rest)) first e))

abbrev pub IsPlainSign : Sign → Type 0
IsPlainSign (signs.Path p) = IsBarePath p
IsPlainSign (signs.Literal v) = IsLiteral v
IsPlainSign t = Unit {0}

-- how what is a path begins
begins_by : (b c : ℕ) → (b == 47 || b == 94 && c == 47) ≡ true → (b ≡ 47) ⊎ (b ≡ 94) × (c ≡ 47)
begins_by b c = or_parted (b == 47) (b == 94 && c == 47) (λ e. inl (eqb-true b 47 e)) (λ e. let p = and_parts (b == 94) (c == 47) e in inr (eqb-true b 94 p.0, eqb-true c 47 p.1))

short_path : (b c : ℕ) (t : Bool) → (b == 94 && c == 47) ≡ t → (b == 47 || b == 94 && c == 47) ≡ true → IsUtf8 (b ∷ c ∷ []) → IsPath (cond t (b ∷ []) (b ∷ c ∷ []))
short_path b c true e h u = eqb-true b 94 (and_parts (b == 94) (c == 47) e).0
short_path b c false e h u = (or_parted (b == 47) (b == 94 && c == 47) (eqb-true b 47) (λ k. let both : true ≡ false = sym k ∙ e in absurd cc) h, u)

-- a path can be written, at least in quotes
pointer_is : (text : List ℕ) → is_path text ≡ true → IsUtf8 text → IsPath (pointer text)
pointer_is [] h u = absurd cc
pointer_is (b ∷ []) h u = tt
pointer_is (b ∷ c ∷ []) h u = short_path b c (b == 94 && c == 47) refl h u
pointer_is (b ∷ c ∷ d ∷ bytes) h u = (begins_by b c h, u)

bare_by : (shown all : Bool) → all ≡ true → shown ≡ true → (all && shown) ≡ true
bare_by true true a s = refl
bare_by shown all a s = absurd cc

is_bare_from : (p : List ℕ) → list_all (continues Slash) p ≡ true → is_shown p ≡ true → is_bare p ≡ true
unfolding is_bare
is_bare_from p a s = bare_by (is_shown p) (list_all (continues Slash) p) a s

slash_goes_on : (b : ℕ) (bytes : List ℕ) → (b ≡ 47) ⊎ (b ≡ 94) → list_all (continues Slash) bytes ≡ true → list_all (continues Slash) (b ∷ bytes) ≡ true
slash_goes_on b bytes (inl e) h = rw e h
slash_goes_on b bytes (inr e) h = rw e h

front_by : (b c : ℕ) → (b == 47 || b == 94 && c == 47) ≡ true → (b ≡ 47) ⊎ (b ≡ 94)
front_by b c = or_parted (b == 47) (b == 94 && c == 47) (λ e. inl (eqb-true b 47 e)) (λ e. inr (eqb-true b 94 (and_parts (b == 94) (c == 47) e).0))

bare_short : (b c : ℕ) (t : Bool) → (b == 94 && c == 47) ≡ t → (b == 47 || b == 94 && c == 47) ≡ true → list_all (continues Slash) (c ∷ []) ≡ true → is_shown (b ∷ c ∷ []) ≡ true → is_bare (cond t (b ∷ []) (b ∷ c ∷ [])) ≡ true
bare_short b c true e h all shown = rw (eqb-true b 94 (and_parts (b == 94) (c == 47) e).0) caret_is_bare
bare_short b c false e h all shown = is_bare_from (b ∷ c ∷ []) (slash_goes_on b (c ∷ []) (front_by b c h) all) shown

-- a word is a path with no quotes
pointer_bare : (b : ℕ) (bytes : List ℕ) → is_path (b ∷ bytes) ≡ true → list_all (continues Slash) bytes ≡ true → is_shown (b ∷ bytes) ≡ true → is_bare (pointer (b ∷ bytes)) ≡ true
pointer_bare b [] h all shown = nothing_is_bare
pointer_bare b (c ∷ []) h all shown = bare_short b c (b == 94 && c == 47) refl h all shown
pointer_bare b (c ∷ d ∷ bytes) h all shown = is_bare_from (b ∷ c ∷ d ∷ bytes) (slash_goes_on b (c ∷ d ∷ bytes) (front_by b c h) all) shown

shown_utf8 : (word : List ℕ) → is_shown word ≡ true → IsUtf8 word
unfolding is_shown
shown_utf8 word h = IsUtf8-from_is_utf8 word (and_parts (is_utf8 word) (not (list_any is_hidden (chars word))) h).0

literal_plain : (v : Literal) (b : ℕ) (bytes : List ℕ) → (class_of b ≡ Digit) ⊎ (class_of b ≡ Quote) → (class_of b ≡ Digit → list_all (continues Digit) bytes ≡ true) → is_utf8 (b ∷ bytes) ≡ true → read (b ∷ bytes) ≡ Some (data_of v) → IsTextOf v (b ∷ bytes) → IsLiteral v
literal_plain (Natural n) b bytes c all u r same = read_number (b ∷ bytes) (unsigned n) r
literal_plain (Negative (pos n)) b bytes c all u r same = read_number (b ∷ bytes) (negative (pos n)) r
literal_plain (Negative (negsuc n)) b bytes c all u r same = read_number (b ∷ bytes) (negative (negsuc n)) r
literal_plain (Decimal text x) b bytes c all u r same =
    let digit = no_decimal b bytes x c r in
    subst (λ (w : List ℕ). IsDecimal w x) (sym same) (digit, all digit, u, r)
literal_plain (Text s) b bytes c all u r same = text_literal b bytes s c u r
literal_plain (Boolean t) b bytes c all u r same = tt
literal_plain Null b bytes c all u r same = tt

word_plain : (text rest : List ℕ) {t : Sign} {w : List ℕ} → cut text ≡ Some (w, rest) → IsWritten t w → IsPlainSign t
word_plain text rest c (fixed_text f) = tt
word_plain text rest c (literal b bytes v h u r same) = literal_plain v b bytes (literal_class (class_of b) h) (λ digit. cut_bytes Digit text b bytes rest refl digit c) u r same
word_plain text rest c (path b bytes h is shown) =
    (pointer_is (b ∷ bytes) is (shown_utf8 (b ∷ bytes) shown), pointer_bare b bytes is (cut_bytes Slash text b bytes rest refl h c) shown)

-- what a token is, can be written
pub path_plain : (t : Sign) (p : List ℕ) → path_in t ≡ Some p → IsPlainSign t → IsPath p
path_plain (signs.Word f) p h a = absurd cc
path_plain (signs.Path q) p h a = subst IsPath (some_is q p h) a.0
path_plain (signs.Literal (Text text)) p h a = let q = cond_some (is_path text) (pointer text) p h in subst IsPath q.1 (pointer_is text q.0 a)
path_plain t p h a = absurd cc

pub value_plain : (t : Sign) (v : Literal) → value_in t ≡ Some v → IsPlainSign t → IsLiteral v
value_plain (signs.Literal w) v h a = subst IsLiteral (some_is w v h) a
value_plain (signs.Word (fixed.Boolean b)) v h a = subst IsLiteral (some_is (Boolean b) v h) tt
value_plain (signs.Word (fixed.ValueKind value_kinds.Null)) v h a = subst IsLiteral (some_is Null v h) tt
value_plain t v h a = absurd cc

pub text_plain : (t : Sign) (text : List ℕ) → text_in t ≡ Some text → IsPlainSign t → IsUtf8 text
text_plain (signs.Literal (Text s)) text h a = subst IsUtf8 (some_is s text h) a
text_plain t text h a = absurd cc

abbrev pub ArePlainSigns : List Sign → Type 0
ArePlainSigns [] = Unit {0}
ArePlainSigns (t ∷ ts) = IsPlainSign t × ArePlainSigns ts

pub lexed_plain : {text : List ℕ} {ts : List (Sign × ℕ)} → IsLexed text ts → ArePlainSigns (map (λ t. t.0) ts)
lexed_plain (over o) = (tt, tt)
lexed_plain (space s d) = lexed_plain d
lexed_plain (token {text = text} {rest = rest} c w d) = (word_plain text rest c w, lexed_plain d)
