-- What a struct or a tuple owns is what its fields own. Assumes `Logic`.
use Rattle.std.proofs.Common.{List, [], ◌∷◌, refl}
use seplogic.Ra.Ura.{Ura}
use mir.Val.{Val, vstruct, of_list}
use types.Logic.{Logic}
use types.Kit.{Goal, Step, step, Item, ‵, ◌$◌, fjoin, fpack, feq_i}
use denote.RattleType.{RattleType, Denots, Valss, flat, owns}
use denote.Struct.Struct.{Shape, Struct, within}

-- a struct or a tuple of these fields: what it owns reads no name
abbrev pub of_fields : List RattleType → Shape
of_fields Rs = record { name = []; args = []; types = []; fields = Rs }

module _ {M : Type 1} {𝓤 : Ura M} {𝓛 : Logic 𝓤} {K : Type 0} {Γ : List (Item 𝓤)} {G : Goal 𝓤 𝓛.H} where
  -- what its fields own, at the machine values vss, is what it owns
  pub by_fields : K → (Rs : List RattleType) (a : Denots Rs) (vss : Valss Rs)
      → Step K 𝓛 (‵ ((Struct (of_fields Rs)).own_val a (vstruct (of_list (flat Rs vss)) ∷ [])) ∷ Γ) G (‵ (owns Rs a vss) ∷ Γ) G
  by_fields t Rs a vss = step (λ rest.
      let vs = vstruct (of_list (flat Rs vss)) ∷ [] in
      feq_i t (List Val) vs vs refl $ fjoin t $ fpack t (Valss Rs) (within (of_fields Rs) a vs) vss $ rest)
