-- What is written of a list, one text more at a time.
use Rattle.std.proofs.Common.{◌≡◌, ℕ, ◌+◌, ◌<◌, List, [], ◌∷◌, ◌++◌, Option, Some, None, codes, Ok, map, length, take, get_or, arith, refl, sym, ap, ◌∙◌, subst, append-nil}
use Rattle.std.proofs.lemmas.List.{take_more, map-append, length-map, length-take-le}
use Rattle.std.specs.declared.fmt.Formatter.{Formatter}
use Rattle.std.specs.Fmt.{◌++?◌, DisplaysOnOk}
use Rattle.std.proofs.Output.{then_text_assoc, writes_in_calls_nil, displays_on_IsOk_append}
use Rattle.predicates_core.specs.Several.{further_texts}

pub nothing_behind : (t : Option (List ℕ)) → t ++? Some [] ≡ t
nothing_behind None = refl
nothing_behind (Some t) = ap Some (append-nil t)

pub nothing_before : (t : Option (List ℕ)) → Some [] ++? t ≡ t
nothing_before None = refl
nothing_before (Some t) = refl

pub further_last : (ts : List (Option (List ℕ))) (t : Option (List ℕ)) → further_texts (ts ++ t ∷ []) ≡ further_texts ts ++? (Some (codes ", ") ++? t)
further_last [] t = ap (λ z. Some (codes ", ") ++? z) (nothing_behind t) ∙ sym (nothing_before (Some (codes ", ") ++? t))
further_last (s ∷ ts) t =
    ap (λ z. Some (codes ", ") ++? (s ++? z)) (further_last ts t)
    ∙ ap (λ z. Some (codes ", ") ++? z) (sym (then_text_assoc s (further_texts ts) (Some (codes ", ") ++? t)))
    ∙ sym (then_text_assoc (Some (codes ", ")) (s ++? further_texts ts) (Some (codes ", ") ++? t))

module _ {W : Type 0} (took : W → List ℕ → W → Type 0) where
  pub nothing_written : (f : Formatter W) → DisplaysOnOk took f (Ok tt) (Some []) f
  nothing_written f plain ok = record { wrote = writes_in_calls_nil _ f.writer; plain = plain }

  -- where the last text stands behind the others, as `last` puts it there
  module _ (texts : List (Option (List ℕ)) → Option (List ℕ)) (last : ℕ → Option (List ℕ) → Option (List ℕ)) (is_last : (ts : List (Option (List ℕ))) (t : Option (List ℕ)) → texts (ts ++ t ∷ []) ≡ texts ts ++? last (length ts) t) where
    pub one_text_more : {U : Type 0} (output : U → Option (List ℕ)) (us : List U) (k : ℕ) (u : U) (f g h : Formatter W) → k < length us → u ≡ get_or us k u → DisplaysOnOk took f (Ok tt) (texts (map output (take k us))) g → DisplaysOnOk took g (Ok tt) (last k (output u)) h
        → DisplaysOnOk took f (Ok tt) (texts (map output (take (k + 1) us))) h
    one_text_more output us k u f g h within is x y =
        let one_more : take (k + 1) us ≡ take k us ++ u ∷ [] = take_more us k u within ∙ ap (λ z. take k us ++ z ∷ []) (sym is) in
        let number : length (map output (take k us)) ≡ k = length-map (take k us) output ∙ length-take-le k us (omega (arith, within)) in
        let more : texts (map output (take (k + 1) us)) ≡ texts (map output (take k us)) ++? last k (output u) =
        ap (λ z. texts (map output z)) one_more ∙ ap texts (map-append output (take k us) (u ∷ [])) ∙ is_last (map output (take k us)) (output u)
        ∙ ap (λ n. texts (map output (take k us)) ++? last n (output u)) number in
        subst (λ o. DisplaysOnOk took f (Ok tt) o h) (sym more) (displays_on_IsOk_append took f g h (Ok tt) (Ok tt) _ _ (λ ok. refl) x y)
