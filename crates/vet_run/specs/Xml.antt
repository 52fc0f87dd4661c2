-- Texts as XML has them.
use Rattle.std.specs.Prelude.{◌==◌, ◌++◌, nat_lt, ℕ, List, [], ◌∷◌, Bool, not, ◌&&◌, ◌||◌, codes}
use Rattle.std.specs.Prelude.{if◌then◌else◌}

-- a control character that XML forbids: all but tabs and the ends of lines
abbrev pub is_forbidden : ℕ → Bool
is_forbidden b = nat_lt b 32 && not (b == 9 || b == 10 || b == 13)

-- U+FFFD, which stands for what XML forbids
abbrev pub replacement : List ℕ
replacement = 239 ∷ 191 ∷ 189 ∷ []

-- whether the byte ends U+FFFE or U+FFFF, which XML forbids too, behind its first two bytes
abbrev pub ends_noncharacter : ℕ → ℕ → ℕ → Bool
ends_noncharacter first second byte = first == 239 && (second == 191 && nat_lt 189 byte)

-- a byte behind two others: one that XML forbids is replaced
abbrev pub plain_byte : ℕ → ℕ → ℕ → List ℕ
plain_byte first second byte =
    if is_forbidden byte then replacement
    else (if ends_noncharacter first second byte then 189 ∷ [] else byte ∷ [])

-- the same, and what has a meaning of its own in XML is escaped
abbrev pub xml_byte : ℕ → ℕ → ℕ → List ℕ
xml_byte first second byte =
    if byte == 38 then codes "&amp;"
    else (if byte == 60 then codes "&lt;"
    else (if byte == 62 then codes "&gt;"
    else (if byte == 34 then codes "&quot;"
    else (if byte == 13 then codes "&#13;" else plain_byte first second byte))))

-- bytes behind two others
abbrev pub xml_behind : ℕ → ℕ → List ℕ → List ℕ
xml_behind first second [] = []
xml_behind first second (b ∷ bs) = xml_byte first second b ++ xml_behind second b bs

abbrev pub xml_text : List ℕ → List ℕ
xml_text text = xml_behind 0 0 text
