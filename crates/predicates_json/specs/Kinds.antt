-- The kinds of JSON values, and what a value of a kind holds.
use Rattle.std.specs.Prelude.{ℕ, List, Bool, Option, Some, None, String, Vec, codes}
use Rattle.std.specs.Global.{Global}
use Rattle.std.specs.BTreeMap.{BTreeMap}
use Rattle.serde_json.specs.Data.{Num, unsigned, negative, float, Data, null, boolean, number}
use Rattle.serde_json.specs.Data.{string, array, object}
use Rattle.serde_json.specs.declared.value.Value.{Value, out-Value}
use Rattle.serde_json.specs.declared.value.Value.TheOpen.{Value-F}

-- what is said of a value of another kind than the one that is asked for
abbrev pub kind_text : Data → List ℕ
kind_text null = codes "is null"
kind_text (boolean b) = codes "is a boolean"
kind_text (number n) = codes "is a number"
kind_text (string s) = codes "is a string"
kind_text (array ds) = codes "is an array"
kind_text (object ms) = codes "is an object"

-- what is said of a number that is no `i64`
abbrev pub no_i64_text : Num → List ℕ
no_i64_text (unsigned n) = codes "is too large for i64"
no_i64_text (negative z) = codes "is too large for i64"
no_i64_text (float x) = codes "is a float"

-- what is said of a number that is no `u64`
abbrev pub no_u64_text : Num → List ℕ
no_u64_text (unsigned n) = codes "is negative"
no_u64_text (negative z) = codes "is negative"
no_u64_text (float x) = codes "is a float"

-- what would be said of a number that is no `f64`; there is none
abbrev pub no_f64_text : Num → List ℕ
no_f64_text n = codes "is no f64"

-- what is said of a value that is no number of the type
abbrev pub no_number_text : (Num → List ℕ) → Data → List ℕ
no_number_text misfit null = kind_text null
no_number_text misfit (boolean b) = kind_text (boolean b)
no_number_text misfit (number n) = misfit n
no_number_text misfit (string s) = kind_text (string s)
no_number_text misfit (array ds) = kind_text (array ds)
no_number_text misfit (object ms) = kind_text (object ms)

-- ---- what a value holds, as it lies in memory

abbrev pub bool_open : Value-F Value → Option Bool
bool_open Value-F.Null = None
bool_open (Value-F.Bool b) = Some b
bool_open (Value-F.Number x) = None
bool_open (Value-F.String s) = None
bool_open (Value-F.Array v) = None
bool_open (Value-F.Object m) = None

abbrev pub string_open : Value-F Value → Option (String Global)
string_open Value-F.Null = None
string_open (Value-F.Bool b) = None
string_open (Value-F.Number x) = None
string_open (Value-F.String s) = Some s
string_open (Value-F.Array v) = None
string_open (Value-F.Object m) = None

abbrev pub array_open : Value-F Value → Option (Vec Value Global)
array_open Value-F.Null = None
array_open (Value-F.Bool b) = None
array_open (Value-F.Number x) = None
array_open (Value-F.String s) = None
array_open (Value-F.Array v) = Some v
array_open (Value-F.Object m) = None

abbrev pub object_open : Value-F Value → Option (BTreeMap (String Global) Value)
object_open Value-F.Null = None
object_open (Value-F.Bool b) = None
object_open (Value-F.Number x) = None
object_open (Value-F.String s) = None
object_open (Value-F.Array v) = None
object_open (Value-F.Object m) = Some m

abbrev pub held_bool : Value → Option Bool
held_bool v = bool_open (out-Value v)

abbrev pub held_string : Value → Option (String Global)
held_string v = string_open (out-Value v)

abbrev pub held_array : Value → Option (Vec Value Global)
held_array v = array_open (out-Value v)

abbrev pub held_object : Value → Option (BTreeMap (String Global) Value)
held_object v = object_open (out-Value v)
