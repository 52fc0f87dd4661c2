-- The checks of rules, one after the other.
use Rattle.std.proofs.Common.{◌≡◌, List, [], ◌∷◌, ◌++◌, map, length, sym, ◌∙◌, subst, append-nil, arith}
use Rattle.std.specs.List.{AllZip}

module _ {X Y Z : Type 0} (R : Y → Z → Type 0) (f : X → Y) where
  pub zip_more : (xs : List X) (zs : List Z) (x : X) (z : Z) → AllZip R (map f xs) zs → R (f x) z → AllZip R (map f (xs ++ x ∷ [])) (zs ++ z ∷ [])
  zip_more [] [] x z h r = (r, tt)
  zip_more [] (w ∷ zs) x z h r = absurd h
  zip_more (y ∷ xs) [] x z h r = absurd h
  zip_more (y ∷ xs) (w ∷ zs) x z h r = (h.0, zip_more xs zs x z h.1 r)

  pub zip_all : (all xs rest : List X) (zs : List Z) → all ≡ xs ++ rest → length rest ≡ 0 → AllZip R (map f xs) zs → AllZip R (map f all) zs
  zip_all all xs [] zs e none h = subst (λ ys. AllZip R (map f ys) zs) (sym (e ∙ append-nil xs)) h
  zip_all all xs (y ∷ rest) zs e none h = absurd (omega (arith, none))
