-- Soundness over lists of two ranges, as statements on pairs. Assumes nothing.
use Rattle.std.proofs.Common.{◌≡◌, List, [], ◌∷◌, Some, None, Option}
use Rattle.std.specs.Option.{option_map}
use Rattle.interval_arithmetic.specs.Sound.{All, of_one, of_two, both, Covers, Narrows}

module _ {X V : Type 0} {holds one : X → V → Type 0} where
  pub covers_one : (f : V → Option V) (x r : X) → ((a c : V) → holds x a → f a ≡ Some c → holds r c) → ((a c : V) → one x a → f a ≡ Some c → one r c) → Covers holds one (of_one f) (x ∷ []) r
  covers_one f x r h k = record { every = every; single = single }
    where
      every : (vs : List V) (v : V) → All holds (x ∷ []) vs → of_one f vs ≡ Some v → holds r v
      every [] v w e = absurd w
      every (a ∷ []) v w e = h a v w.0 e
      every (a ∷ b ∷ vs) v w e = absurd w.1

      single : (vs : List V) (v : V) → All one (x ∷ []) vs → of_one f vs ≡ Some v → one r v
      single [] v w e = absurd w
      single (a ∷ []) v w e = k a v w.0 e
      single (a ∷ b ∷ vs) v w e = absurd w.1

  pub covers_two : (f : V → V → Option V) (x y r : X) → ((a b c : V) → holds x a → holds y b → f a b ≡ Some c → holds r c) → ((a b c : V) → one x a → one y b → f a b ≡ Some c → one r c) → Covers holds one (of_two f) (x ∷ y ∷ []) r
  covers_two f x y r h k = record { every = every; single = single }
    where
      every : (vs : List V) (v : V) → All holds (x ∷ y ∷ []) vs → of_two f vs ≡ Some v → holds r v
      every [] v w e = absurd w
      every (a ∷ []) v w e = absurd w.1
      every (a ∷ b ∷ []) v w e = h a b v w.0 w.1.0 e
      every (a ∷ b ∷ c ∷ vs) v w e = absurd w.1.1

      single : (vs : List V) (v : V) → All one (x ∷ y ∷ []) vs → of_two f vs ≡ Some v → one r v
      single [] v w e = absurd w
      single (a ∷ []) v w e = absurd w.1
      single (a ∷ b ∷ []) v w e = k a b v w.0 w.1.0 e
      single (a ∷ b ∷ c ∷ vs) v w e = absurd w.1.1

module _ {X V : Type 0} (holds : X → V → Type 0) (inside : X → X → Type 0) where
  -- the pair keeps a on the left and b on the right; none keeps nothing
  abbrev pub Keeps : Option (X × X) → V → V → Type 0
  Keeps None a b = ⊥
  Keeps (Some p) a b = holds p.0 a × holds p.1 b

  abbrev pub PairInside : Option (X × X) → X → X → Type 0
  PairInside None x y = Unit {0}
  PairInside (Some p) x y = inside p.0 x × inside p.1 y

  module _ (x y : X) where
    -- from a statement on two values to one on lists
    pub narrows_two : (wanted : List V → Type 0) (p : Option (X × X)) → PairInside p x y → ((a b : V) → holds x a → holds y b → wanted (a ∷ b ∷ []) → Keeps p a b) → Narrows holds inside wanted (x ∷ y ∷ []) (option_map both p)
    narrows_two wanted None i k = none
      where
        none : (vs : List V) → All holds (x ∷ y ∷ []) vs → wanted vs → ⊥
        none [] w u = w
        none (a ∷ []) w u = w.1
        none (a ∷ b ∷ []) w u = k a b w.0 w.1.0 u
        none (a ∷ b ∷ c ∷ vs) w u = w.1.1
    narrows_two wanted (Some p) i k = ((i.0, (i.1, tt)), keeps)
      where
        keeps : (vs : List V) → All holds (x ∷ y ∷ []) vs → wanted vs → All holds (both p) vs
        keeps [] w u = absurd w
        keeps (a ∷ []) w u = absurd w.1
        keeps (a ∷ b ∷ []) w u = let h = k a b w.0 w.1.0 u in (h.0, (h.1, tt))
        keeps (a ∷ b ∷ c ∷ vs) w u = absurd w.1.1

    -- and back
    pub pair_inside : (wanted : List V → Type 0) (p : Option (X × X)) → Narrows holds inside wanted (x ∷ y ∷ []) (option_map both p) → PairInside p x y
    pair_inside wanted None n = tt
    pair_inside wanted (Some p) n = (n.0.0, n.0.1.0)

    pub pair_keeps : (wanted : List V → Type 0) (p : Option (X × X)) → Narrows holds inside wanted (x ∷ y ∷ []) (option_map both p) → (a b : V) → holds x a → holds y b → wanted (a ∷ b ∷ []) → Keeps p a b
    pair_keeps wanted None n a b h k u = n (a ∷ b ∷ []) (h, (k, tt)) u
    pair_keeps wanted (Some p) n a b h k u = let w = n.1 (a ∷ b ∷ []) (h, (k, tt)) u in (w.0, w.1.0)
