-- Tokens that are laid out are taken apart again.
use Rattle.std.proofs.Common.{◌≡◌, true≢false, ℕ, suc, ◌+◌, ◌<◌, ◌≤◌, ◌^◌, ◌/◌, ◌%◌, pos, negsuc, Bool, true, false, cond, List, [], ◌∷◌, ◌++◌, map, length, Option, Some, None, option_map, refl, sym, ap, subst, ◌∙◌, inl, inr, arith, append_assoc, append-nil, length-append}
use Rattle.std.specs.Prelude.{Float, ◌||◌, ◌==◌, nat_lt, option_and_then}
use Rattle.std.specs.List.{prefix_len, list_all}
use Rattle.std.specs.Str.{IsUtf8, is_utf8}
use Rattle.std.specs.Str.Parse.{AllDigits, IsNumeral}
use Rattle.std.specs.Int.{IsInRange}
use Rattle.std.specs.Fmt.{decimal, signed_decimal}
use Rattle.std.specs.Char.{digit_char}
use Rattle.std.proofs.lemmas.Str.{is_utf8-from_IsUtf8, IsUtf8-from_ascii}
use Rattle.std.proofs.lemmas.Str.Parse.{digit_from_value}
use Rattle.std.proofs.lemmas.Fmt.{decimal_is_IsNumeral, IsAscii-decimal, IsAscii-signed}
use Rattle.std.proofs.lemmas.Bool.{ltb-true, eqb-true, and_parts}
use Rattle.std.proofs.lemmas.Bool.Decides.{nat_tests}
use Rattle.std.proofs.lemmas.List.{take_at, drop_at}
use Rattle.json.specs.Token.{Token}
use Rattle.json.specs.Lex.{tokens}
use Rattle.json.specs.Json as json
use Rattle.json.specs.Tree.{json_tokens, depth}
use Rattle.json.specs.Print.{print_from, quoted, escape, escape_letter, escape_byte, IsNumber}
use Rattle.json.proofs.Printed.Trees.{value-json_tokens, ArePrintable-json_tokens}
use Rattle.json.proofs.Printed.Tokens.{tokens-print}
use Rattle.json.proofs.Printed.Decimals.{IsNumber-decimal, IsNumber-signed_decimal}
use Rattle.json.proofs.Printed.Utf8.{IsUtf8-quoted}
use Rattle.serde_json.specs.Data.{Data, number, string, unsigned, negative}
use Rattle.serde_json.specs.Read.{read, of_json}
use Rattle.serde_json.proofs.Numbers.{number_of-decimal, number_of-negative}
use Rattle.vet_rules.specs.declared.lexer.Class.{Class}
use Rattle.vet_rules.specs.declared.lexer.Class.TheVariants.{Letter, Digit, Symbol, Mark, Slash}
use Rattle.vet_rules.specs.declared.expression.HowMany.{HowMany}
use Rattle.vet_rules.specs.declared.expression.HowMany.TheVariants as quantifiers
use Rattle.vet_rules.specs.declared.parser.Separator.{Separator}
use Rattle.vet_rules.specs.declared.parser.Separator.TheVariants as separators
use Rattle.vet_rules.specs.declared.condition.ValueKind.TheVariants as value_kinds
use Rattle.vet_rules.specs.declared.fixed.Fixed.{Fixed}
use Rattle.vet_rules.specs.declared.fixed.Fixed.TheVariants as fixed
use Rattle.vet_rules.specs.Literals.{Literal, Natural, Negative, Decimal, Text, Boolean}
use Rattle.vet_rules.specs.Literals.{Null}
use Rattle.vet_rules.specs.Signs as signs
use Rattle.vet_rules.specs.Signs.{Sign}
use Rattle.vet_rules.specs.Conditions.{Condition, Is, Compare, CompareWith, Length, IsOf}
use Rattle.vet_rules.specs.Conditions.{Relate, In, KeysIn}
use Rattle.vet_rules.specs.Trees.{Tree, Test, Not, Implies, Quantified, Joined, AtLeast}
use Rattle.vet_rules.specs.Trees.{Trees, none, more}
use Rattle.vet_rules.specs.Grammar.{Level, Single, Whole, separator_word, part_level, IsSpelled}
use Rattle.vet_rules.specs.Lexemes.{text_of, is_space, is_mark, class_of, continues, text_end, class_len, token_len, cut, begins_literal, is_shown, is_path, pointer, IsWritten, fixed_text, literal, path, IsLexed, over, space, token}
use Rattle.vet_rules.specs.Rules.{Says}
use Rattle.vet_rules.specs.Printing.{is_bare, path_sign, literal_sign, text_sign, following, row_signs, among_signs, subject_signs, condition_signs, threshold_signs, quantifier_signs, in_parentheses, stands_at, takes_if, signs_at, part_signs, follow_signs, nesting_at, IsProper, path_text, word_of, opens, closes, laid_from, printed, IsDecimal, IsPath, IsLiteral, AreLiterals, IsPlainCondition, IsPlainQuantifier, IsPlain, ArePlain}
use Rattle.vet_rules.proofs.Printed.{printed as printed_spelled}
use Rattle.vet_rules.proofs.Lines.{run_is}
use Rattle.vet_rules.proofs.Words.{is_run, IsRun, read_back}
use Rattle.vet_rules.proofs.Bare.{slash_shows, caret_shows, nothing_is_bare, caret_is_bare}

-- ---- JSON reads what it writes

read_json : (j : json.Json) (text : List ℕ) (d : Data) → tokens text ≡ json_tokens j → depth j ≤ 127 → of_json j ≡ Some d → read text ≡ Some d
read_json j text d t le e =
    ap (λ o. option_and_then of_json (option_and_then (λ p. json.if_last p.0 p.1) o)) (ap (json.value 127) (t ∙ sym (append-nil (json_tokens j))) ∙ value-json_tokens j 127 [] le) ∙ e

read_number : (s : List ℕ) (d : Data) → IsNumber s → of_json (json.number s) ≡ Some d → read s ≡ Some d
unfolding print_from
read_number s d h e =
    let t : tokens s ≡ Token.number s ∷ [] = subst (λ (w : List ℕ). tokens w ≡ Token.number s ∷ []) (append-nil s) (tokens-print (Token.number s ∷ []) (ArePrintable-json_tokens (json.number s) h)) in
    read_json (json.number s) s d t (omega arith) e

read_text : (s : List ℕ) → read (quoted s) ≡ Some (string s)
unfolding print_from
read_text s =
    let t : tokens (quoted s) ≡ Token.string s ∷ [] = subst (λ (w : List ℕ). tokens w ≡ Token.string s ∷ []) (append-nil (quoted s)) (tokens-print (Token.string s ∷ []) (ArePrintable-json_tokens (json.string s) tt)) in
    read_json (json.string s) (quoted s) (string s) t (omega arith) refl

read_natural : (n : ℕ) → n < 2 ^ 64 → read (decimal n) ≡ Some (number (unsigned n))
read_natural n lt = read_number (decimal n) (number (unsigned n)) (IsNumber-decimal n lt) (ap (option_map number) (number_of-decimal n lt))

read_negative : (n : ℕ) → n < 2 ^ 63 → read (signed_decimal (negsuc n)) ≡ Some (number (negative (negsuc n)))
read_negative n lt = read_number (signed_decimal (negsuc n)) (number (negative (negsuc n))) (IsNumber-signed_decimal (negsuc n) lt) (ap (option_map number) (number_of-negative n lt))

-- ---- the end of a word

-- whether no byte at the front goes on with a word
abbrev is_apart : List ℕ → Bool
is_apart [] = true
is_apart (b ∷ text) = is_space b || is_mark b

pub run_len : (c : Class) (text : List ℕ) → is_run c ≡ true → class_len c text ≡ Some (suc (prefix_len (continues c) text))
run_len Letter text h = refl
run_len Digit text h = refl
run_len Symbol text h = refl
run_len Mark text h = refl
run_len Slash text h = refl
run_len c text h = absurd cc

pub or_parted : {A : Type 0} (a b : Bool) → (a ≡ true → A) → (b ≡ true → A) → (a || b) ≡ true → A
or_parted true b f g h = f refl
or_parted false b f g h = g h

is_byte : (P : ℕ → Type 0) (b n : ℕ) → P n → (b == n) ≡ true → P b
is_byte P b n p h = subst P (sym (eqb-true b n h)) p

-- what holds of each space and each mark
each_apart : (P : ℕ → Type 0) (b : ℕ) → P 32 → P 9 → P 13 → P 40 → P 41 → P 44 → P 91 → P 93 → (is_space b || is_mark b) ≡ true → P b
each_apart P b blank tab return_mark opening closing comma opening_list closing_list =
    or_parted (is_space b) (is_mark b)
    (or_parted (b == 32 || b == 9) (b == 13) (or_parted (b == 32) (b == 9) (is_byte P b 32 blank) (is_byte P b 9 tab)) (is_byte P b 13 return_mark))
    (or_parted (b == 40 || b == 41 || b == 44 || b == 91) (b == 93)
    (or_parted (b == 40 || b == 41 || b == 44) (b == 91)
    (or_parted (b == 40 || b == 41) (b == 44) (or_parted (b == 40) (b == 41) (is_byte P b 40 opening) (is_byte P b 41 closing)) (is_byte P b 44 comma))
    (is_byte P b 91 opening_list))
    (is_byte P b 93 closing_list))

apart_run : (c : Class) (b : ℕ) → is_run c ≡ true → (is_space b || is_mark b) ≡ true → continues c b ≡ false
apart_run Letter b r h = each_apart (λ x. continues Letter x ≡ false) b refl refl refl refl refl refl refl refl h
apart_run Digit b r h = each_apart (λ x. continues Digit x ≡ false) b refl refl refl refl refl refl refl refl h
apart_run Symbol b r h = each_apart (λ x. continues Symbol x ≡ false) b refl refl refl refl refl refl refl refl h
apart_run Mark b r h = refl
apart_run Slash b r h = each_apart (λ x. continues Slash x ≡ false) b refl refl refl refl refl refl refl refl h
apart_run c b r h = absurd cc

run_stops : (c : Class) (text : List ℕ) → is_run c ≡ true → is_apart text ≡ true → prefix_len (continues c) text ≡ 0
run_stops c [] r h = refl
run_stops c (b ∷ text) r h = let stops : continues c b ≡ false = apart_run c b r h in rw stops refl

cut_at : (b : ℕ) (word rest : List ℕ) → token_len ((b ∷ word) ++ rest) ≡ Some (suc (length word)) → cut ((b ∷ word) ++ rest) ≡ Some (b ∷ word, rest)
unfolding cut
cut_at b word rest n = rw (n, take_at word rest (length word) refl, drop_at word rest (length word) refl) refl

cut_run : (word rest : List ℕ) → IsRun word → is_apart rest ≡ true → cut (word ++ rest) ≡ Some (word, rest)
cut_run [] rest r h = absurd r
cut_run (b ∷ word) rest r h =
    cut_at b word rest (run_len (class_of b) (word ++ rest) r.0 ∙ ap (λ (k : ℕ). Some (suc k)) (run_is (continues (class_of b)) word rest r.1 (run_stops (class_of b) rest r.0 h)))

-- ---- numbers

digit_class : (b : ℕ) → IsInRange 48 57 b → class_of b ≡ Digit
digit_class b h = grind (arith, nat_tests)

digit_goes_on : (b : ℕ) → IsInRange 48 57 b → continues Digit b ≡ true
digit_goes_on b h = grind (arith, nat_tests)

digits_go_on : (ds : List ℕ) → AllDigits 10 ds → list_all (continues Digit) ds ≡ true
digits_go_on [] h = refl
digits_go_on (d ∷ ds) h = let e = digit_goes_on d (digit_from_value d h.0) in let f = digits_go_on ds h.1 in rw (e, f) refl

-- a word that is written, and ends where the next one may begin
abbrev pub IsWord : Sign → List ℕ → Type 0
IsWord t word = IsWritten t word × ((rest : List ℕ) → (opens t || is_apart rest) ≡ true → cut (word ++ rest) ≡ Some (word, rest))

run_of : (c : Class) (b : ℕ) (word : List ℕ) → class_of b ≡ c → is_run c ≡ true → list_all (continues c) word ≡ true → IsRun (b ∷ word)
run_of c b word d r h = subst (λ (k : Class). (is_run k ≡ true) × (list_all (continues k) word ≡ true)) (sym d) (r, h)

natural_word : (word : List ℕ) (n : ℕ) → n < 2 ^ 64 → word ≡ decimal n → IsNumeral 10 word → IsWord (signs.Literal (Natural n)) word
natural_word [] n lt e h = absurd (omega (arith, h.0))
natural_word (b ∷ word) n lt e h =
    let c : class_of b ≡ Digit = digit_class b (digit_from_value b h.1.0) in
    let r : read (b ∷ word) ≡ Some (number (unsigned n)) = subst (λ (w : List ℕ). read w ≡ Some (number (unsigned n))) (sym e) (read_natural n lt) in
    let u : is_utf8 (b ∷ word) ≡ true = subst (λ (w : List ℕ). is_utf8 w ≡ true) (sym e) (is_utf8-from_IsUtf8 (decimal n) (IsUtf8-from_ascii (decimal n) (IsAscii-decimal n lt))) in
    (literal b word (Natural n) (ap begins_literal c) u r tt, λ rest. cut_run (b ∷ word) rest (run_of Digit b word c refl (digits_go_on word h.1.1)))

minus_is_digit : class_of 45 ≡ Digit
minus_is_digit = refl

negative_word : (n : ℕ) → n < 2 ^ 63 → IsWord (signs.Literal (Negative (negsuc n))) (signed_decimal (negsuc n))
negative_word n lt =
    let u : is_utf8 (signed_decimal (negsuc n)) ≡ true = is_utf8-from_IsUtf8 (signed_decimal (negsuc n)) (IsUtf8-from_ascii (signed_decimal (negsuc n)) (IsAscii-signed (negsuc n) lt)) in
    let h = (decimal_is_IsNumeral (suc n) (omega arith)).0 in
    (literal 45 (decimal (suc n)) (Negative (negsuc n)) refl u (read_negative n lt) tt, λ rest. cut_run (45 ∷ decimal (suc n)) rest (run_of Digit 45 (decimal (suc n)) minus_is_digit refl (digits_go_on (decimal (suc n)) h.1)))

decimal_word : (word : List ℕ) (x : Float) → IsDecimal word x → IsWord (signs.Literal (Decimal word x)) word
decimal_word [] x h = absurd h
decimal_word (b ∷ word) x h = (literal b word (Decimal (b ∷ word) x) (ap begins_literal h.0) h.2 h.3 refl, λ rest. cut_run (b ∷ word) rest (run_of Digit b word h.0 refl h.1))

-- ---- texts

plain_len : (b : ℕ) (text : List ℕ) → (b == 34) ≡ false → (b == 92) ≡ false → text_end false (b ∷ text) ≡ option_map suc (text_end false text)
plain_len b text q s = rw (q, s) refl

digit_char_no_quote : (d : ℕ) → d < 16 → (digit_char d == 34) ≡ false
digit_char_no_quote d lt = grind (arith, nat_tests)

digit_char_no_escape : (d : ℕ) → d < 16 → (digit_char d == 92) ≡ false
digit_char_no_escape d lt = grind (arith, nat_tests)

abbrev add : ℕ → Option ℕ → Option ℕ
add n o = option_map (λ k. n + k) o

once : (o : Option ℕ) → option_map suc o ≡ add 1 o
once (Some k) = ap (λ (m : ℕ). Some m) (omega arith)
once None = refl

twice : (o : Option ℕ) → option_map suc (option_map suc o) ≡ add 2 o
twice (Some k) = ap (λ (m : ℕ). Some m) (omega arith)
twice None = refl

six_times : (o : Option ℕ) → option_map suc (option_map suc (option_map suc (option_map suc (option_map suc (option_map suc o))))) ≡ add 6 o
six_times (Some k) = ap (λ (m : ℕ). Some m) (omega arith)
six_times None = refl

control_len : (d e : ℕ) (text : List ℕ) → d < 16 → e < 16 → text_end false (92 ∷ 117 ∷ 48 ∷ 48 ∷ digit_char d ∷ digit_char e ∷ text) ≡ add 6 (text_end false text)
control_len d e text p q =
    let one = plain_len (digit_char e) text (digit_char_no_quote e q) (digit_char_no_escape e q) in
    let two = plain_len (digit_char d) (digit_char e ∷ text) (digit_char_no_quote d p) (digit_char_no_escape d p) in
    ap (λ (o : Option ℕ). option_map suc (option_map suc (option_map suc (option_map suc o)))) (two ∙ ap (λ (o : Option ℕ). option_map suc o) one) ∙ six_times (text_end false text)

quote_has_letter : (x : ℕ) → x ≡ 34 → nat_lt 0 (escape_letter x) ≡ true
quote_has_letter x e = rw e refl

backslash_has_letter : (x : ℕ) → x ≡ 92 → nat_lt 0 (escape_letter x) ≡ true
backslash_has_letter x e = rw e refl

no_quote : (x : ℕ) → nat_lt 0 (escape_letter x) ≡ false → (x == 34) ≡ false
no_quote x h = by_condition (x == 34) refl
  where
    by_condition : (b : Bool) → (x == 34) ≡ b → b ≡ false
    by_condition true e = absurd (true≢false (sym (quote_has_letter x (eqb-true x 34 e)) ∙ h))
    by_condition false e = refl

no_backslash : (x : ℕ) → nat_lt 0 (escape_letter x) ≡ false → (x == 92) ≡ false
no_backslash x h = by_condition (x == 92) refl
  where
    by_condition : (b : Bool) → (x == 92) ≡ b → b ≡ false
    by_condition true e = absurd (true≢false (sym (backslash_has_letter x (eqb-true x 92 e)) ∙ h))
    by_condition false e = refl

byte_by : (x : ℕ) (text : List ℕ) (a b : Bool) → nat_lt 0 (escape_letter x) ≡ a → nat_lt x 32 ≡ b
    → text_end false (cond a (92 ∷ escape_letter x ∷ []) (cond b (92 ∷ 117 ∷ 48 ∷ 48 ∷ digit_char (x / 16) ∷ digit_char (x % 16) ∷ []) (x ∷ [])) ++ text)
    ≡ add (length (cond a (92 ∷ escape_letter x ∷ []) (cond b (92 ∷ 117 ∷ 48 ∷ 48 ∷ digit_char (x / 16) ∷ digit_char (x % 16) ∷ []) (x ∷ [])))) (text_end false text)
byte_by x text true b p q = twice (text_end false text)
byte_by x text false true p q = let small : x < 32 = ltb-true x 32 q in control_len (x / 16) (x % 16) text (omega arith) (omega arith)
byte_by x text false false p q = plain_len x text (no_quote x p) (no_backslash x p) ∙ once (text_end false text)

byte_len : (x : ℕ) (text : List ℕ) → text_end false (escape_byte x ++ text) ≡ add (length (escape_byte x)) (text_end false text)
unfolding escape_byte
byte_len x text = byte_by x text (nat_lt 0 (escape_letter x)) (nat_lt x 32) refl refl

text_len : (s rest : List ℕ) → text_end false (escape s ++ 34 ∷ rest) ≡ Some (suc (length (escape s)))
text_len [] rest = refl
text_len (x ∷ s) rest =
    let long = length-append (escape_byte x) (escape s) in
    ap (text_end false) (append_assoc (escape_byte x) (escape s) (34 ∷ rest)) ∙ byte_len x (escape s ++ 34 ∷ rest) ∙ ap (add (length (escape_byte x))) (text_len s rest) ∙ ap (λ (m : ℕ). Some m) (omega (arith, long))

text_word : (s : List ℕ) → IsUtf8 s → IsWord (signs.Literal (Text s)) (quoted s)
text_word s u =
    let body = escape s ++ 34 ∷ [] in
    let long : length body ≡ suc (length (escape s)) = omega (arith, length-append (escape s) (34 ∷ [])) in (
      literal 34 body (Text s) refl (is_utf8-from_IsUtf8 (quoted s) (IsUtf8-quoted s u)) (read_text s) tt,
      λ rest apart. cut_at 34 body rest (ap (λ (w : List ℕ). option_map suc (text_end false w)) (append_assoc (escape s) (34 ∷ []) rest) ∙ ap (λ (o : Option ℕ). option_map suc o) (text_len s rest) ∙ ap (λ (k : ℕ). Some (suc k)) (sym long)),
    )

-- ---- words of their own, and paths

fixed_word : (f : Fixed) → opens (signs.Word f) ≡ false → IsWord (signs.Word f) (text_of f)
fixed_word f o = (fixed_text f, λ rest h. cut_run (text_of f) rest (read_back f).0 (ap (λ (b : Bool). b || is_apart rest) (sym o) ∙ h))

-- behind an opening mark anything may stand
mark_stops : (text : List ℕ) → prefix_len (continues Mark) text ≡ 0
mark_stops [] = refl
mark_stops (b ∷ text) = refl

open_word : IsWord (signs.Word fixed.Open) (text_of fixed.Open)
open_word = (fixed_text fixed.Open, λ rest h. cut_at 40 [] rest (ap (λ (k : ℕ). Some (suc k)) (mark_stops rest)))

open_list_word : IsWord (signs.Word fixed.OpenList) (text_of fixed.OpenList)
open_list_word = (fixed_text fixed.OpenList, λ rest h. cut_at 91 [] rest (ap (λ (k : ℕ). Some (suc k)) (mark_stops rest)))

slash_class : class_of 47 ≡ Slash
slash_class = refl

caret_class : class_of 94 ≡ Slash
caret_class = refl

record_word : IsWord (signs.Path (94 ∷ [])) (94 ∷ 47 ∷ [])
record_word = (path 94 (47 ∷ []) caret_class refl caret_shows, λ rest. cut_run (94 ∷ 47 ∷ []) rest (refl, refl))

-- a path of more bytes, which is its own pointer
long_word : (b : ℕ) (bytes : List ℕ) → class_of b ≡ Slash → is_path (b ∷ bytes) ≡ true → pointer (b ∷ bytes) ≡ b ∷ bytes → list_all (continues Slash) bytes ≡ true → is_shown (b ∷ bytes) ≡ true → IsWord (signs.Path (b ∷ bytes)) (b ∷ bytes)
long_word b bytes c is p all shown =
    (subst (λ (w : List ℕ). IsWritten (signs.Path w) (b ∷ bytes)) p (path b bytes c is shown), λ rest. cut_run (b ∷ bytes) rest (run_of Slash b bytes c refl all))

bare_parts : (p : List ℕ) → is_bare p ≡ true → (list_all (continues Slash) p ≡ true) × (is_shown p ≡ true)
unfolding is_bare
bare_parts p h = and_parts (list_all (continues Slash) p) (is_shown p) h

path_word : (p : List ℕ) → IsPath p → is_bare p ≡ true → IsWord (signs.Path p) (path_text p)
path_word [] h bare = (path 47 [] slash_class refl slash_shows, λ rest. cut_run (47 ∷ []) rest (refl, refl))
path_word (b ∷ []) h bare = subst (λ (x : ℕ). IsWord (signs.Path (x ∷ [])) (path_text (x ∷ []))) (sym h) record_word
path_word (b ∷ c ∷ []) (h, u) bare =
    let q = bare_parts (b ∷ c ∷ []) bare in
    long_word b (c ∷ []) (ap class_of h ∙ slash_class) (rw h refl) (rw h refl) (and_parts (continues Slash b) (list_all (continues Slash) (c ∷ [])) q.0).1 q.1
path_word (b ∷ c ∷ d ∷ bytes) (inl h, u) bare =
    let q = bare_parts (b ∷ c ∷ d ∷ bytes) bare in
    long_word b (c ∷ d ∷ bytes) (ap class_of h ∙ slash_class) (rw h refl) refl (and_parts (continues Slash b) (list_all (continues Slash) (c ∷ d ∷ bytes)) q.0).1 q.1
path_word (b ∷ c ∷ d ∷ bytes) (inr (h, k), u) bare =
    let q = bare_parts (b ∷ c ∷ d ∷ bytes) bare in
    long_word b (c ∷ d ∷ bytes) (ap class_of h ∙ caret_class) (rw (h, k) refl) refl (and_parts (continues Slash b) (list_all (continues Slash) (c ∷ d ∷ bytes)) q.0).1 q.1

path_utf8 : (p : List ℕ) → IsPath p → is_bare p ≡ false → IsUtf8 p
path_utf8 [] h bare = absurd (true≢false (sym nothing_is_bare ∙ bare))
path_utf8 (b ∷ []) h bare = absurd (true≢false (sym (subst (λ (x : ℕ). is_bare (x ∷ []) ≡ true) (sym h) caret_is_bare) ∙ bare))
path_utf8 (b ∷ c ∷ bytes) h bare = h.1

subject_word : (p : List ℕ) → IsPath p → IsWord (path_sign p) (word_of (path_sign p))
subject_word p h = by_condition (is_bare p) refl
  where
    by_condition : (b : Bool) → is_bare p ≡ b → IsWord (cond b (signs.Path p) (text_sign p)) (word_of (cond b (signs.Path p) (text_sign p)))
    by_condition true e = path_word p h e
    by_condition false e = text_word p (path_utf8 p h e)

literal_word : (v : Literal) → IsLiteral v → IsWord (literal_sign v) (word_of (literal_sign v))
literal_word (Natural n) h = natural_word (decimal n) n h refl (decimal_is_IsNumeral n h).0
literal_word (Negative (pos n)) h = absurd h
literal_word (Negative (negsuc n)) h = negative_word n h
literal_word (Decimal text x) h = decimal_word text x h
literal_word (Text s) h = text_word s h
literal_word (Boolean b) h = fixed_word (fixed.Boolean b) refl
literal_word Null h = fixed_word (fixed.ValueKind value_kinds.Null) refl

separator_opens : (s : Separator) → IsWord (signs.Word (separator_word s)) (text_of (separator_word s))
separator_opens (separators.Connective c) = fixed_word (fixed.Join c) refl
separator_opens separators.Comma = fixed_word fixed.Comma refl

-- ---- the tokens of an expression

abbrev pub AreWords : List Sign → Type 0
AreWords [] = Unit {0}
AreWords (t ∷ ts) = IsWord t (word_of t) × AreWords ts

both_words : (ts us : List Sign) → AreWords ts → AreWords us → AreWords (ts ++ us)
both_words [] us a b = b
both_words (t ∷ ts) us a b = (a.0, both_words ts us a.1 b)

closed_words : (ts : List Sign) → AreWords ts → AreWords (in_parentheses ts)
closed_words ts a = (open_word, both_words ts (signs.Word fixed.Close ∷ []) a (fixed_word fixed.Close refl, tt))

following_words : (ts : List Sign) → AreWords ts → AreWords (following ts)
following_words [] a = tt
following_words (t ∷ ts) a = (fixed_word fixed.Comma refl, (a.0, following_words ts a.1))

row_words : (ts : List Sign) → AreWords ts → AreWords (row_signs ts)
row_words [] a = tt
row_words (t ∷ ts) a = (a.0, following_words ts a.1)

among_words : (ts : List Sign) → AreWords ts → AreWords (among_signs ts)
among_words ts a = (fixed_word fixed.In refl, (open_list_word, both_words (row_signs ts) (signs.Word fixed.CloseList ∷ []) (row_words ts a) (fixed_word fixed.CloseList refl, tt)))

literal_words : (vs : List Literal) → AreLiterals vs → AreWords (map literal_sign vs)
literal_words [] h = tt
literal_words (v ∷ vs) h = (literal_word v h.0, literal_words vs h.1)

texts_words : (texts : List (List ℕ)) → AreLiterals (map Text texts) → AreWords (map text_sign texts)
texts_words [] h = tt
texts_words (text ∷ texts) h = (text_word text h.0, texts_words texts h.1)

condition_words : (t : Condition) → IsPlainCondition t → AreWords (condition_signs t)
condition_words (Is s) h = (fixed_word (fixed.State s) refl, tt)
condition_words (Compare o v) h = (fixed_word (fixed.Comparison o) refl, (literal_word v h, tt))
condition_words (CompareWith o other) h = (fixed_word (fixed.Comparison o) refl, (path_word other h.0 h.1, tt))
condition_words (Length o n) h = (fixed_word fixed.Length refl, (fixed_word (fixed.Comparison o) refl, (literal_word (Natural n) h, tt)))
condition_words (IsOf k) h = (fixed_word fixed.Is refl, (fixed_word (fixed.ValueKind k) refl, tt))
condition_words (Relate r text) h = (fixed_word (fixed.Relation r) refl, (text_word text h, tt))
condition_words (In vs) h = among_words (map literal_sign vs) (literal_words vs h)
condition_words (KeysIn texts) h = among_words (map text_sign texts) (texts_words texts h)

subject_words : (p : List ℕ) (t : Condition) → IsPath p → AreWords (subject_signs p t)
subject_words p (KeysIn texts) h = (fixed_word fixed.Keys refl, (subject_word p h, tt))
subject_words p t h = (subject_word p h, tt)

threshold_words : (k : ℕ) → IsLiteral (Natural k) → AreWords (threshold_signs k)
threshold_words k h = (fixed_word fixed.At refl, (fixed_word fixed.Least refl, (literal_word (Natural k) h, tt)))

quantifier_words : (q : HowMany) → IsPlainQuantifier q → AreWords (quantifier_signs q)
quantifier_words quantifiers.Each h = (fixed_word fixed.Each refl, tt)
quantifier_words quantifiers.Any h = (fixed_word fixed.Any refl, tt)
quantifier_words (quantifiers.AtLeast k) h = threshold_words k h

placed_words : (b : Bool) (ts : List Sign) → AreWords ts → AreWords (cond b ts (in_parentheses ts))
placed_words true ts a = a
placed_words false ts a = closed_words ts a

mutual
  tree_words : (e : Tree) (l : Level) → IsPlain e → AreWords (signs_at l e)
  tree_words (Test p t) l h = both_words (subject_signs p t) (condition_signs t) (subject_words p t h.0) (condition_words t h.1)
  tree_words (Not e) l h = (fixed_word fixed.Not refl, tree_words e Single h)
  tree_words (Implies a b) l h =
      placed_words (takes_if l) (signs.Word fixed.If ∷ (signs_at Whole a ++ signs.Word fixed.Then ∷ signs_at Whole b)) (fixed_word fixed.If refl, both_words (signs_at Whole a) (signs.Word fixed.Then ∷ signs_at Whole b) (tree_words a Whole h.0) (fixed_word fixed.Then refl, tree_words b Whole h.1))
  tree_words (Quantified q p e) l h =
      both_words (quantifier_signs q) (path_sign p ∷ in_parentheses (signs_at Whole e)) (quantifier_words q h.2) (subject_word p h.0, closed_words (signs_at Whole e) (tree_words e Whole h.1))
  tree_words (Joined c es) l h = placed_words (stands_at l c es) (part_signs (separators.Connective c) es) (part_words es (separators.Connective c) h)
  tree_words (AtLeast k es) l h =
      both_words (threshold_signs k) (signs.Word fixed.Of ∷ in_parentheses (part_signs separators.Comma es)) (threshold_words k h.0) (fixed_word fixed.Of refl, closed_words (part_signs separators.Comma es) (part_words es separators.Comma h.1))

  part_words : (es : Trees) (s : Separator) → ArePlain es → AreWords (part_signs s es)
  part_words none s h = tt
  part_words (more e es) s h = both_words (signs_at (part_level s) e) (follow_signs s es) (tree_words e (part_level s) h.0) (follow_words es s h.1)

  follow_words : (es : Trees) (s : Separator) → ArePlain es → AreWords (follow_signs s es)
  follow_words none s h = tt
  follow_words (more e es) s h = (separator_opens s, both_words (signs_at (part_level s) e) (follow_signs s es) (tree_words e (part_level s) h.0) (follow_words es s h.1))

-- ---- their layout

-- a text that is these tokens
abbrev Reads : List ℕ → List Sign → Type 0
Reads text ts = (us : List (Sign × ℕ)) × (map (λ u. u.0) us ≡ ts ++ signs.End ∷ []) × IsLexed text us

past_space : (b : Bool) (text : List ℕ) (ts : List Sign) → Reads text ts → Reads (cond b [] (32 ∷ []) ++ text) ts
past_space true text ts o = o
past_space false text ts o = (o.0, o.1, space refl o.2)

nothing_follows : (b : Bool) → (b || is_apart []) ≡ true
nothing_follows true = refl
nothing_follows false = refl

-- what closes is a mark
close_apart : (t : Sign) (text : List ℕ) → closes t ≡ true → is_apart (word_of t ++ text) ≡ true
close_apart (signs.Word fixed.Close) text h = refl
close_apart (signs.Word fixed.CloseList) text h = refl
close_apart (signs.Word fixed.Comma) text h = refl
close_apart t text h = absurd cc

gap_apart : (opening closing : Bool) (text : List ℕ) → (closing ≡ true → is_apart text ≡ true) → (opening || is_apart (cond (opening || closing) [] (32 ∷ []) ++ text)) ≡ true
gap_apart true closing text h = refl
gap_apart false true text h = h refl
gap_apart false false text h = refl

follows_apart : (b : Bool) (ts : List Sign) → (b || is_apart (laid_from b ts)) ≡ true
follows_apart b [] = nothing_follows b
follows_apart b (t ∷ ts) = gap_apart b (closes t) (word_of t ++ laid_from (opens t) ts) (close_apart t (laid_from (opens t) ts))

lexed_from : (b : Bool) (ts : List Sign) → AreWords ts → Reads (laid_from b ts) ts
lexed_from b [] a = ((signs.End, 0) ∷ [], refl, over refl)
lexed_from b (t ∷ ts) a =
    let behind : List ℕ = laid_from (opens t) ts in
    let o = lexed_from (opens t) ts a.1 in
    past_space (b || closes t) (word_of t ++ behind) (t ∷ ts) ((t, length (word_of t ++ behind)) ∷ o.0, ap (λ (vs : List Sign). t ∷ vs) o.1, token (a.0.1 behind (follows_apart (opens t) ts)) a.0.0 o.2)

pub printed_says : (n : ℕ) (e : Tree) → IsProper e → IsPlain e → nesting_at Whole e ≤ n → Says n (printed e) e
printed_says n e p h le =
    let o = lexed_from true (signs_at Whole e) (tree_words e Whole h) in
    (o.0, o.2, subst (λ (vs : List Sign). IsSpelled n vs e) (sym o.1) (printed_spelled n e p h le))
