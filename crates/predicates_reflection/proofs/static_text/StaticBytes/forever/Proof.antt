-- `forever` keeps the right to read that a `&'static [u8]` has. Assumes `Logic`.
use Rattle.std.proofs.Common.{◌^◌, ◌<◌, List, [], ◌∷◌, length, refl, arith}
use Rattle.std.proofs.raw_atomic.Walks.{proved}
use base.Fml.{ftrue}
use mir.Syntax.{static}
use mir.Val.{Val, vptr, vstruct, vcons, vnil}
use types.Kit.{‵, ◌⊛◌, prop, Sq, ◌$◌, ◌∵◌, !, qed, done, move, keep, split, fsplit, fjoin, feq_i, join, suffices}
use types.Part.{agg, sub, whole}
use types.Run.{enter, returns, and_then, no_more, fld, stop, addr, from, hop}
use types.ByLocal.{alloc_all, pass_all, free_all, look_at, look_in_at, get, sets}
use denote.Builtin.{u8, SliceRefOf, RawPtr}
use denote.Exit.{yes}
use denote.Opens.{unhide}
use denote.RawPtr.{block_ptr}
use denote.Signature.{plain}
use denote.Slice.{ShrSlice, shr_slice_vals, shr_slice_Tells}
use denote.Steps.{nothing}
use denote.Triple.Walked.{says, Stays, stay_dropped, walk_of, ends_at, Goes-dropped}
use Rattle.predicates_reflection.proofs.OwnedFields.{by_fields}
use Rattle.predicates_reflection.specs.Ownership.{static_bytes_own}
use Rattle.predicates_reflection.specs.contracts.static_text.StaticBytes.{the_row as StaticBytes}
use Rattle.predicates_reflection.specs.contracts.static_text.StaticBytes.forever as f
use Rattle.predicates_reflection.proofs.static_text.StaticBytes.forever.Statement.{statement}
use Rattle.predicates_reflection.proofs.static_text.StaticBytes.forever.Code as code

abbrev stayed : Stays f.ended.signature.params f.ended.kept
stayed = (stay_dropped (SliceRefOf [] tt (plain (λ _. u8)) (λ _. tt)) yes, tt)

pub forever_spec : {M : Type 1} → statement M
forever_spec 𝓤 𝓛 𝓜 𝓡 wired =
    let c = f.clauses 𝓛 𝓜.mem 𝓡.returns in let W = walk_of 𝓛 f.ended stayed c in
    proved 𝓛 f.ended stayed c 𝓜 𝓡 (Goes-dropped 𝓛 0 (SliceRefOf [] tt (plain (λ _. u8)) (λ _. tt)) yes (λ κs x w. refl), tt)
    f.Key.name code.function (code.unfolded 𝓤 𝓛.H 𝓜 𝓡 wired)
    (λ κs. (shr_slice_vals, tt)) (λ κs. (shr_slice_Tells static [] u8, tt)) (λ κs qs bounds a _ are.
    let b = a.0.ref_ptr.0 in let o = a.0.ref_ptr.1 in let xs = a.0.now in
    let count : length xs < 2 ^ 64 = are.0.0.1.0 in
    let size : length xs < 2 ^ 63 = let room = are.0.0.1.1 in omega arith in
    let at = vptr b o in let none = vstruct vnil in let both = vstruct (vcons at (vcons none vnil)) in
    let seen : StaticBytes.Denot = record { ptr = block_ptr b o; items = xs; placed = (refl, size) } in
    let y : W.Ghost = ((κs, qs, bounds, a, (shr_slice_vals a.0, tt)), tt) in
    -- the `StaticBytes` has the bytes, and the pair has both; nothing is left of the slice
    let ends : Sq 𝓛 (‵ (static_bytes_own (block_ptr b o) xs) ∷ []) (prop (W.post y both)) =
    suffices ! _ (ends_at 𝓛 f.ended stayed c y both (block_ptr b o, seen) (tt, tt) (tt, tt)) $ says ! (refl, refl) $
    nothing ! $ by_fields ! [] tt tt $ fjoin ! $
    nothing ! $ move ! (1 ∷ 0 ∷ []) $ fjoin ! $ feq_i ! (List Val) (at ∷ []) (at ∷ []) refl $ fjoin ! $
    by_fields ! (RawPtr ∷ StaticBytes ∷ []) (block_ptr b o, (seen, tt)) (at ∷ [], (none ∷ [], tt)) $
    nothing ! $ nothing ! $ join ! $ nothing ! $ done ! in
    qed 𝓛 ((‵ ftrue ⊛ ‵ ((ShrSlice static [] u8).own_val a.0 (shr_slice_vals a.0)) ⊛ ‵ ftrue) ∷ ‵ ftrue ∷ []) ∵
    split ! $ move ! (1 ∷ []) $ split ! $ fsplit ! $ keep ! (1 ∷ []) $ unhide ! $
    -- [the bytes; the locals]
    enter ! _ _ _ _ _ $ alloc_all ! (λ l. pass_all ! refl ((tt, (tt, (record { fits = count }, tt))), tt) $
    -- the pointer of the slice
    sets ! (addr ! (from ! (fld ! refl (hop ! (look_in_at ! 1 (sub ! 0 refl (whole !))) (stop !))))) refl (tt, tt) $
    -- `StaticBytes {}`, and the pair
    sets ! (agg ! (no_more !)) refl (tt, tt) $
    sets ! (agg ! (and_then ! (get ! refl) (and_then ! (get ! refl) (no_more !)))) refl (tt, (tt, (tt, tt))) $
    returns ! (look_at ! 0 refl) $ free_all ! refl $ ends))
