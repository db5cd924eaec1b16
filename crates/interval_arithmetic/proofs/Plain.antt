-- How the ends that a plain struct keeps are read. Assumes nothing.
use Rattle.std.proofs.Common.{◌≡◌, Bool, true, false, cond, IfSome, Some, None, Option, refl, ap, ◌∙◌}
use Rattle.std.specs.Option.{option_map}
use Rattle.std.proofs.lemmas.Option.{cond_some}
use Rattle.interval_arithmetic.specs.Ends.{end_is, uncrossed, fair, fit, kept, low_end, high_end}
use Rattle.interval_arithmetic.proofs.Meets.{fair_parts, fair_from}

module _ {V : Type 0} (p : V → Bool) where
  -- a value came out, so it fits
  pub fit_was : (z c : V) → fit p z ≡ Some c → (p z ≡ true) × (z ≡ c)
  fit_was z c h = cond_some (p z) z c h

  pub fit_is : (z : V) → p z ≡ true → fit p z ≡ Some z
  fit_is z h = ap (λ t. cond t (Some z) None) h

  fit_end_pick : (z : V) (t : Bool) → p z ≡ t → end_is p (cond t (Some z) None) ≡ true
  fit_end_pick z true e = e
  fit_end_pick z false e = refl

  pub fit_end : (z : V) → end_is p (fit p z) ≡ true
  fit_end z = fit_end_pick z (p z) refl

  kept_is : (e : Option V) → end_is p (kept p e) ≡ true
  kept_is None = refl
  kept_is (Some z) = fit_end z

  kept_same : (e : Option V) → end_is p e ≡ true → kept p e ≡ e
  kept_same None h = refl
  kept_same (Some z) h = fit_is z h

  module _ (leq : V → V → Bool) (total : (a b : V) → leq a b ≡ false → leq b a ≡ true) where
    swapped_fair : (a b : V) (t : Bool) → leq a b ≡ t → p a ≡ true → p b ≡ true → fair p leq (Some (cond t a b)) (Some (cond t b a)) ≡ true
    swapped_fair a b true e i j = fair_from p leq (Some a) (Some b) i j e
    swapped_fair a b false e i j = fair_from p leq (Some b) (Some a) j i (total a b e)

    ends_fair : (l u : Option V) → end_is p l ≡ true → end_is p u ≡ true → fair p leq (low_end leq l u) (high_end leq l u) ≡ true
    ends_fair None None i j = refl
    ends_fair None (Some b) i j = fair_from p leq None (Some b) i j refl
    ends_fair (Some a) None i j = fair_from p leq (Some a) None i j refl
    ends_fair (Some a) (Some b) i j = swapped_fair a b (leq a b) refl i j

    -- the ends that are read are always fair
    pub reads_fair : (l u : Option V) → fair p leq (low_end leq (kept p l) (kept p u)) (high_end leq (kept p l) (kept p u)) ≡ true
    reads_fair l u = ends_fair (kept p l) (kept p u) (kept_is l) (kept_is u)

    straight : (l u : Option V) → uncrossed leq l u ≡ true → (low_end leq l u ≡ l) × (high_end leq l u ≡ u)
    straight None None h = (refl, refl)
    straight None (Some b) h = (refl, refl)
    straight (Some a) None h = (refl, refl)
    straight (Some a) (Some b) h = (ap (λ t. Some (cond t a b)) h, ap (λ t. Some (cond t b a)) h)

    -- and fair ends read as they are
    pub reads_same : (l u : Option V) → fair p leq l u ≡ true → (low_end leq (kept p l) (kept p u) ≡ l) × (high_end leq (kept p l) (kept p u) ≡ u)
    reads_same l u h =
        let q = fair_parts p leq l u h in
        let e = straight l u q.2 in
        let kl = kept_same l q.0 in
        let ku = kept_same u q.1 in
        (ap (λ x. low_end leq x (kept p u)) kl ∙ ap (λ x. low_end leq l x) ku ∙ e.0, ap (λ x. high_end leq x (kept p u)) kl ∙ ap (λ x. high_end leq l x) ku ∙ e.1)

-- an end that is open, or of which p holds, through a map
pub open_map : {A B : Type 0} (f : A → B) (p : B → Type 0) (e : Option A) → IfSome e (λ a. p (f a)) → IfSome (option_map f e) p
open_map f p None h = tt
open_map f p (Some a) h = h

pub open_unmap : {A B : Type 0} (f : A → B) (p : B → Type 0) (e : Option A) → IfSome (option_map f e) p → IfSome e (λ a. p (f a))
open_unmap f p None h = tt
open_unmap f p (Some a) h = h

-- a value that may not fit is open, or of it p holds
pub open_fit : {V : Type 0} (q : V → Bool) (p : V → Type 0) (z : V) → p z → IfSome (fit q z) p
open_fit q p z h = elim (q z) as (λ t. IfSome (cond t (Some z) None) p) [ true ↦ h | false ↦ tt ]
