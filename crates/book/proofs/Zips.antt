-- Tasks beside the numbers of a list, as the code has them, and their records beside those numbers, as definitions have them.
use Rattle.std.proofs.Common.{◌≡◌, Bool, List, [], ◌∷◌, map, refl, ap, ◌∙◌}
use Rattle.std.proofs.lemmas.List.Folds.{list_all-map}
use Rattle.std.specs.List.{list_all, zip}

pub zip_map : {X Y Z : Type 0} (f : X → Y) (xs : List X) (zs : List Z) → zip (map f xs) zs ≡ map (λ (p : X × Z). (f p.0, p.1)) (zip xs zs)
zip_map f [] zs = refl
zip_map f (x ∷ xs) [] = refl
zip_map f (x ∷ xs) (z ∷ zs) = ap (λ ps. (f x, z) ∷ ps) (zip_map f xs zs)

pub all_zip_map : {X Y Z : Type 0} (p : Y × Z → Bool) (f : X → Y) (xs : List X) (zs : List Z) → list_all p (zip (map f xs) zs) ≡ list_all (λ (q : X × Z). p (f q.0, q.1)) (zip xs zs)
all_zip_map p f xs zs = ap (list_all p) (zip_map f xs zs) ∙ list_all-map p (λ q. (f q.0, q.1)) (zip xs zs)
