-- What is held for good can be had twice, and out of a loan. Assumes `Logic`.
use Rattle.std.proofs.Common.{ℕ, List, [], ◌∷◌}
use seplogic.Ra.Ura.{Ura}
use mir.Syntax.{w8}
use base.Logic.{sep, wand, apply∗}
use base.Fml.{Lft, Fml, fbor}
use types.Logic.{Logic, sem, lfts}
use types.Kit.{‵, raw, ◌⊛◌, later, ◌$◌, ◌∵◌, !, qed, move, drop, use1, use2, split, await, updating, now, done}
use denote.Builtin.{u8}
use denote.Plain.{uint_row_laws}
use denote.RawPtr.{Ptr, block_of, count_of}
use denote.Sharing.{ShrLaws}
use denote.SharingLaws.{held_shr_laws, contraction}
use denote.Slice.{elements_shared, elements_shr_laws}
use denote.Struct.Lending.{Lends}
use Rattle.predicates_reflection.specs.Ownership.{static_bytes_own}

-- the bytes xs at p, as a `&` of any lifetime has them
abbrev pub bytes_lent : Ptr → List ℕ → Lft → Fml
bytes_lent p xs = elements_shared u8 xs (block_of p) (count_of p)

abbrev pub bytes_laws : (p : Ptr) (xs : List ℕ) → ShrLaws (bytes_lent p xs)
bytes_laws p xs = elements_shr_laws u8 (uint_row_laws w8) xs (block_of p) (count_of p)

-- the right to them for good, behind a `&`
abbrev pub kept_laws : (p : Ptr) (xs : List ℕ) → ShrLaws (λ _. static_bytes_own p xs)
kept_laws p xs = held_shr_laws [] (bytes_lent p xs) (bytes_laws p xs)

module _ {M : Type 1} {𝓤 : Ura M} (𝓛 : Logic 𝓤) where
  -- a loan of what can be had twice is opened, copied from and closed
  pub lends_kept : (P : Fml) → ShrLaws (λ _. P) → (l : Lft) → Lends 𝓛 P (λ _. P) l
  lends_kept P twice l κ ts inc sp =
      let Loan = sep 𝓤 (𝓛.A.bor κ P) (lfts 𝓛 ts) in
      qed 𝓛 (‵ (fbor κ P) ∷ raw (lfts 𝓛 ts) ∷ []) ∵ updating ! $
      use2 𝓛 (later (‵ P ⊛ raw (wand 𝓤 (sem 𝓛 P) (𝓛.H.⇛ Loan)))) (𝓛.more.bor_acc_by κ ts P sp) $ await ! tt $ split ! $
      use1 𝓛 (‵ P ⊛ ‵ P) (contraction 𝓛 (λ _. P) twice κ) $ split ! $
      -- [one to give back; one to keep; the way back]
      move ! (0 ∷ 2 ∷ []) $ use2 𝓛 (later (‵ (fbor κ P) ⊛ raw (lfts 𝓛 ts))) (apply∗ 𝓤 (sem 𝓛 P) (𝓛.H.⇛ Loan)) $ await ! tt $
      split ! $ drop ! $ move ! (1 ∷ 0 ∷ []) $ now ! $ done !
