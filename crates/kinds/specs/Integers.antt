-- Facts of the integers that fit 64 bits. Assumes nothing.
use Rattle.std.specs.Prelude.{◌≡◌, ℕ, suc, ◌<◌, true, false, ℤ, pos, ◌+ℤ◌, ◌-ℤ◌, neg_ℤ, int_le, unsigned_abs}
use Rattle.std.proofs.Common.{arith}
use Rattle.std.proofs.lemmas.Int.{ints}
use Rattle.kinds.specs.Whole.{inside}

pub leq_total : (a b : ℤ) → int_le a b ≡ false → int_le b a ≡ true
leq_total a b h = grind (arith, ints)

pub leq_refl : (a : ℤ) → int_le a a ≡ true
leq_refl a = grind (arith, ints)

pub leq_antisym : (a b : ℤ) → int_le a b ≡ true → int_le b a ≡ true → a ≡ b
leq_antisym a b h k = grind (arith, ints)

pub leq_trans : (a b c : ℤ) → int_le a b ≡ true → int_le b c ≡ true → int_le a c ≡ true
leq_trans a b c h k = grind (arith, ints)

pub sum_mono : (a b x y : ℤ) → int_le a x ≡ true → int_le b y ≡ true → int_le (a +ℤ b) (x +ℤ y) ≡ true
sum_mono a b x y h k = grind (arith, ints)

pub difference_mono : (a b x y : ℤ) → int_le a x ≡ true → int_le y b ≡ true → int_le (a -ℤ b) (x -ℤ y) ≡ true
difference_mono a b x y h k = grind (arith, ints)

pub negated_mono : (a x : ℤ) → int_le a x ≡ true → int_le (neg_ℤ x) (neg_ℤ a) ≡ true
negated_mono a x h = grind (arith, ints)

pub sum_undone : (x y : ℤ) → (x +ℤ y) -ℤ y ≡ x
sum_undone x y = omega (arith, ints)

pub sum_undone_left : (x y : ℤ) → (x +ℤ y) -ℤ x ≡ y
sum_undone_left x y = omega (arith, ints)

pub difference_undone : (x y : ℤ) → (x -ℤ y) +ℤ y ≡ x
difference_undone x y = omega (arith, ints)

pub difference_undone_left : (x y : ℤ) → x -ℤ (x -ℤ y) ≡ y
difference_undone_left x y = omega (arith, ints)

pub negated_undone : (x : ℤ) → neg_ℤ (neg_ℤ x) ≡ x
negated_undone x = omega (arith, ints)

-- between two numbers that fit, every number fits
pub inside_between : (a z b : ℤ) → inside a ≡ true → inside b ≡ true → int_le a z ≡ true → int_le z b ≡ true → inside z ≡ true
inside_between a z b p q h k = grind (arith, ints)

pub next_greater : (a : ℤ) → int_le (a +ℤ pos 1) a ≡ false
next_greater a = grind (arith, ints)

pub next_least : (a b : ℤ) → int_le b a ≡ false → int_le (a +ℤ pos 1) b ≡ true
next_least a b h = grind (arith, ints)

pub next_none : (a b : ℤ) → inside a ≡ true → inside (a +ℤ pos 1) ≡ false → inside b ≡ true → int_le b a ≡ true
next_none a b p q i = grind (arith, ints)

pub previous_smaller : (a : ℤ) → int_le a (a -ℤ pos 1) ≡ false
previous_smaller a = grind (arith, ints)

pub previous_greatest : (a b : ℤ) → int_le a b ≡ false → int_le b (a -ℤ pos 1) ≡ true
previous_greatest a b h = grind (arith, ints)

pub previous_none : (a b : ℤ) → inside a ≡ true → inside (a -ℤ pos 1) ≡ false → inside b ≡ true → int_le a b ≡ true
previous_none a b p q i = grind (arith, ints)

-- the numbers from a to b, counted from a
pub counted_above : (a : ℤ) (k : ℕ) → int_le a (a +ℤ pos k) ≡ true
counted_above a k = grind (arith, ints)

pub counted_below : (a b : ℤ) (k : ℕ) → int_le a b ≡ true → k < suc (unsigned_abs (b -ℤ a)) → int_le (a +ℤ pos k) b ≡ true
counted_below a b k h i = grind (arith, ints)

pub counted_rises : (a : ℤ) (j k : ℕ) → j < k → int_le (a +ℤ pos k) (a +ℤ pos j) ≡ false
counted_rises a j k h = grind (arith, ints)

pub counted_short : (a b v : ℤ) → int_le a v ≡ true → int_le v b ≡ true → unsigned_abs (v -ℤ a) < suc (unsigned_abs (b -ℤ a))
counted_short a b v h k = grind (arith, ints)

pub counted_there : (a v : ℤ) → int_le a v ≡ true → a +ℤ pos (unsigned_abs (v -ℤ a)) ≡ v
counted_there a v h = grind (arith, ints)
