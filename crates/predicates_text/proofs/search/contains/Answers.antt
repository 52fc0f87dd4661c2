use Rattle.predicates_text.proofs.Searching.{search_decides, byte_search_decides}
use Rattle.predicates_text.proofs.search.contains.Goals as goal

pub returns-then-text-lt-LONG : goal.returns-then-text-lt-LONG
returns-then-text-lt-LONG c =
    let known = search_decides _ _ _ c.utf8.pattern c.utf8.text c.contains.ensures.cases in
    record { part = known.part; bytes = known.bytes; value = known.value }

pub returns : goal.returns
returns c =
    let known = byte_search_decides _ _ _ _ _ _ c.as_bytes-2.ensures.value c.as_bytes.ensures.value c.is_some.ensures c.utf8.pattern c.utf8.text c.find.ensures in
    record { part = known.part; bytes = known.bytes; value = known.value }
