-- `read` hands out the bytes that a `StaticBytes` may read for good. Assumes `Logic`.
use Rattle.std.proofs.Common.{◌≡◌, ℕ, ◌^◌, ◌<◌, List, [], ◌∷◌, length, refl, sym, ◌∙◌, arith}
use Rattle.std.proofs.raw_atomic.Walks.{proved}
use base.Fml.{ftrue, flft}
use contract.Monad.{fact}
use contract.Running.{tables}
use mir.Syntax.{w64, named}
use mir.Val.{vptr, vint}
use prog.Wp.{WpFn}
use types.Kit.{‵, raw, ◌⊛◌, prop, at_ret, Sq, ◌$◌, ◌∵◌, !, qed, done, move, keep, drop, split, fsplit, fjoin, join, regoal, suffices}
use types.Part.{agg}
use types.Run.{enter, returns, of_opd, and_then, no_more, first, blocks, exec}
use types.ByLocal.{alloc_all, pass_all, free_all, look_at, get, sets, sets_last, env}
use denote.Builtin.{u8, usize, RefOf, RawPtr}
use denote.Exit.{yes}
use denote.Opens.{unhide, hide}
use denote.Plain.{uint_vals, uint_Tells}
use denote.RawPtr.{Ptr, block_of, count_of, ptr_val, rawptr_vals, rawptr_Tells}
use denote.Ref.{Bor, ShrRef, shr_vals, shr_Tells}
use denote.Shadow.{pure_i}
use denote.Signature.{plain}
use denote.Slice.{Room, slice_val, shr_slice_at}
use denote.Steps.{nothing, heard}
use denote.Triple.Walked.{says, Stays, stay_dropped, walk_of, ends_at, Goes-dropped}
use Rattle.predicates_reflection.specs.Ownership.{static_bytes_own}
use Rattle.predicates_reflection.specs.contracts.static_text.StaticBytes.{the_row as StaticBytes}
use Rattle.predicates_reflection.specs.contracts.static_text.StaticBytes.read as f
use Rattle.predicates_reflection.proofs.static_text.StaticBytes.read.Statement.{statement}
use Rattle.predicates_reflection.proofs.static_text.StaticBytes.read.Code as code

abbrev stayed : Stays f.ended.signature.params f.ended.kept
stayed = (stay_dropped (RefOf (0 ∷ []) tt (plain (λ _. StaticBytes)) (λ _. tt)) yes, (stay_dropped (plain (λ _. RawPtr)) yes, (stay_dropped (plain (λ _. usize)) yes, tt)))

pub read_spec : {M : Type 1} → statement M
read_spec 𝓤 𝓛 𝓜 𝓡 wired =
    let c = f.clauses 𝓛 𝓜.mem 𝓡.returns in let W = walk_of 𝓛 f.ended stayed c in let 𝓣 = tables 𝓤 𝓛.H 𝓜 𝓡 𝓡.env in
    proved 𝓛 f.ended stayed c 𝓜 𝓡 (
      Goes-dropped 𝓛 1 (RefOf (0 ∷ []) tt (plain (λ _. StaticBytes)) (λ _. tt)) yes (λ κs x w. refl),
      (Goes-dropped 𝓛 1 (plain (λ _. RawPtr)) yes (λ κs x w. refl), (Goes-dropped 𝓛 1 (plain (λ _. usize)) yes (λ κs x w. refl), tt)),
    )
    f.Key.name code.function (code.unfolded 𝓤 𝓛.H 𝓜 𝓡 wired)
    (λ κs. (shr_vals, (rawptr_vals, (uint_vals w64, tt)))) (λ κs. (shr_Tells (named 0) κs.0 StaticBytes, (rawptr_Tells, (uint_Tells w64, tt)))) (λ κs qs bounds a _ are.
    let s = a.0.now in let ptr = a.1.0 in let len = a.1.1.0 in
    let b = block_of s.ptr in let o = count_of s.ptr in let n = length s.items in
    let self = vptr a.0.ref_ptr.0 a.0.ref_ptr.1 in let out = slice_val (b, o) n in
    let read : Bor (List ℕ) = record { ref_ptr = (b, o); now = s.items } in
    let small : n < 2 ^ 63 = s.placed.1 in
    let room : Room u8 n = (omega arith, omega arith) in
    let y : W.Ghost = ((κs, qs, bounds, a, (shr_vals a.0, (rawptr_vals ptr, (uint_vals w64 len, tt)))), tt) in
    let tokens = ‵ (flft κs.0 qs.0) ⊛ ‵ ftrue in
    -- the result has the bytes, and nothing is left of the parameters
    let ends : Sq 𝓛 (‵ (static_bytes_own s.ptr s.items) ∷ tokens ∷ []) (prop (W.post y out)) =
    suffices ! _ (ends_at 𝓛 f.ended stayed c y out read (tt, (tt, (tt, tt))) (tt, (tt, (tt, tt)))) $ says ! refl $
    hide ! $ pure_i ! (shr_slice_at u8 read (out ∷ [])) (tt, (tt, tt)) (refl, room) $ fjoin ! $
    nothing ! $ nothing ! $ join ! $ nothing ! $ join ! $ nothing ! $ join ! $ move ! (2 ∷ 0 ∷ 1 ∷ []) $ done ! in
    let Asked = (s.ptr ≡ ptr) × (n ≡ len) in
    qed 𝓛 ((tokens ⊛ ‵ ((ShrRef (named 0) κs.0 StaticBytes).own_val a.0 (shr_vals a.0)) ⊛ ‵ (RawPtr.own_val ptr (rawptr_vals ptr)) ⊛ ‵ (usize.own_val len (uint_vals w64 len)) ⊛ ‵ ftrue)
    ∷ raw (fact 𝓤 Asked) ∷ []) ∵
    move ! (1 ∷ []) $ heard ! Asked (λ asked. split ! $ move ! (1 ∷ []) $ split ! $ keep ! (0 ∷ 2 ∷ []) $
    -- what a `&` to a `StaticBytes` holds: its fields' part, and the bytes
    fsplit ! $ drop ! $ unhide ! $ fsplit ! $ drop ! $
    -- [the bytes; the token]
    regoal ! (λ (p : Ptr). prop (WpFn 𝓤 𝓛.H 𝓣.C 𝓣.Λ code.function (self ∷ ptr_val p ∷ vint w64 len ∷ []) (W.post y))) (sym asked.0 ∙ s.placed.0) refl $
    regoal ! (λ (k : ℕ). prop (WpFn 𝓤 𝓛.H 𝓣.C 𝓣.Λ code.function (self ∷ vptr b o ∷ vint w64 k ∷ []) (W.post y))) (sym asked.1) refl $
    enter ! _ _ _ _ _ $ alloc_all ! (λ l. pass_all ! refl ((tt, tt), ((tt, tt), ((tt, record { fits = room.0 }), tt))) $
    -- the slice, made inside `unsafe`
    first ! $ blocks ! $
    sets_last ! (agg ! (and_then ! (get ! refl) (and_then ! (get ! refl) (no_more !)))) refl (tt, (tt, (record { fits = room.0 }, tt))) $
    exec ! 𝓣.C 𝓣.Λ (env code.Mir.locals l) code.Mir.t-2 (at_ret _ (W.post y)) $
    sets ! (of_opd ! (get ! refl)) refl (tt, (tt, (record { fits = room.0 }, tt))) $
    returns ! (look_at ! 0 refl) $ free_all ! refl $ ends)))
