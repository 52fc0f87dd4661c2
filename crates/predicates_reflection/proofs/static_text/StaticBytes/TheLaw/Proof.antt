-- A `&` to a `StaticBytes` holds what the `StaticBytes` owns. Assumes `Logic`.
use denote.Struct.Lending.{of_Lends}
use denote.Struct.Owning.{row, lending}
use Rattle.predicates_reflection.proofs.StaticReads.{kept_laws, lends_kept}
use Rattle.predicates_reflection.specs.Ownership.{static_bytes_own}
use Rattle.predicates_reflection.specs.contracts.static_text.StaticBytes as StaticBytes
use Rattle.predicates_reflection.proofs.static_text.StaticBytes.TheLaw.Statement.{statement}

pub shares : statement
shares =
    of_Lends StaticBytes.struct StaticBytes.the_codes StaticBytes.the_heap StaticBytes.the_lent (λ s p. kept_laws s.ptr s.items)
    tt (λ M 𝓤 𝓛 s p. lends_kept 𝓛 (static_bytes_own s.ptr s.items) (kept_laws s.ptr s.items) (row (lending StaticBytes.struct StaticBytes.the_codes StaticBytes.the_heap StaticBytes.the_lent)).lives)
