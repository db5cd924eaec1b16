-- Two kinds side by side: each question goes to the kind that it is about. Assumes nothing.
use Rattle.std.specs.Prelude.{◌≡◌, false, Some, None, Option}
use Rattle.std.specs.Option.{option_map}
use Rattle.interval_arithmetic.specs.Model.{Order, Operations}
use Rattle.joined.specs.declared.Joined.{Joined}
use Rattle.joined.specs.declared.Joined.TheVariants.{First, Second}

-- the answer to a question about one thing
abbrev pub either : {A B C : Type 0} → (A → C) → (B → C) → Joined A B → C
either f g (First x) = f x
either f g (Second y) = g y

-- the answer to a question about two things; e where they are not of one kind
abbrev pub together : {A B C D E : Type 0} → E → (A → C → E) → (B → D → E) → Joined A B → Joined C D → E
together e f g (First x) (First y) = f x y
together e f g (First x) (Second y) = e
together e f g (Second x) (First y) = e
together e f g (Second x) (Second y) = g x y

-- what each thing has, of its own kind
abbrev pub each : {A B C D : Type 0} → (A → C) → (B → D) → Joined A B → Joined C D
each f g = either (λ x. First (f x)) (λ y. Second (g y))

-- what each thing may have, of its own kind
abbrev pub maybe : {A B C D : Type 0} → (A → Option C) → (B → Option D) → Joined A B → Option (Joined C D)
maybe f g = either (λ x. option_map First (f x)) (λ y. option_map Second (g y))

-- what two things of one kind may have
abbrev pub maybe_two : {A B C D : Type 0} → (A → A → Option C) → (B → B → Option D) → Joined A B → Joined A B → Option (Joined C D)
maybe_two f g = together None (λ x y. option_map First (f x y)) (λ x y. option_map Second (g x y))

-- what is of the first kind, and of the second
abbrev pub first_of : {A B : Type 0} → Joined A B → Option A
first_of (First x) = Some x
first_of (Second y) = None

abbrev pub second_of : {A B : Type 0} → Joined A B → Option B
second_of (First x) = None
second_of (Second y) = Some y

-- an end as one of a kind, where `parts x y` says that y is what x is of that kind
abbrev pub EndIn : {X Y : Type 0} → (X → Option Y → Type 0) → Option X → Option (Option Y) → Type 0
EndIn parts None r = r ≡ Some None
EndIn {Y = Y} parts (Some x) r = (y : Option Y) × parts x y × (r ≡ option_map Some y)

-- an end as one of the first kind; none where it is a value of the second
abbrev pub first_end : {A B : Type 0} → Option (Joined A B) → Option (Option A)
first_end None = Some None
first_end (Some (First x)) = Some (Some x)
first_end (Some (Second y)) = None

-- an end as one of the second kind; none where it is a value of the first
abbrev pub second_end : {A B : Type 0} → Option (Joined A B) → Option (Option B)
second_end None = Some None
second_end (Some (First x)) = None
second_end (Some (Second y)) = Some (Some y)

-- the answer by two ends, if both are of the kind
abbrev pub with_ends : {E R : Type 0} → (E → E → Option R) → Option E → Option E → Option R
with_ends f None u = None
with_ends f (Some l) None = None
with_ends f (Some l) (Some u) = f l u

-- the range of the sort's kind with these ends
abbrev pub make_of : {V W R Q S T : Type 0} → (S → Option V → Option V → Option R) → (T → Option W → Option W → Option Q) → Joined S T → Option (Joined V W) → Option (Joined V W) → Option (Joined R Q)
make_of f g (First s) l u = option_map First (with_ends (f s) (first_end l) (first_end u))
make_of f g (Second t) l u = option_map Second (with_ends (g t) (second_end l) (second_end u))

-- the order of each kind; across the two no value is at or below another
abbrev pub joined_order : {V W R Q S T : Type 0} → Order V R S → Order W Q T → Order (Joined V W) (Joined R Q) (Joined S T)
joined_order a b = record {
  is = together false a.is b.is;
  sort_of = each a.sort_of b.sort_of;
  same = together false a.same b.same;
  leq = together false a.leq b.leq;
  sort = each a.sort b.sort;
  lower = maybe a.lower b.lower;
  upper = maybe a.upper b.upper;
  make = make_of a.make b.make;
}

-- f of both
abbrev pub pair : {A C : Type 0} → (A → C) → A × A → C × C
pair f p = (f p.0, f p.1)

-- what is left of two ranges, if they and the parent are of one kind
abbrev pub backward_of : {R Q : Type 0} → (R → R → R → Option (R × R)) → (Q → Q → Q → Option (Q × Q)) → Joined R Q → Joined R Q → Joined R Q → Option (Joined R Q × Joined R Q)
backward_of f g (First p) = together None (λ l r. option_map (pair First) (f p l r)) (λ l r. None)
backward_of f g (Second p) = together None (λ l r. None) (λ l r. option_map (pair Second) (g p l r))

-- the operations of each kind; values that are not of one kind have no result, so the left range holds all of them
abbrev pub joined : {V W R Q S T L M : Type 0} → Operations V R S L → Operations W Q T M → Operations (Joined V W) (Joined R Q) (Joined S T) (Joined L M)
joined a b = record {
  apply = λ op. maybe_two (a.apply op) (b.apply op);
  negate = maybe a.negate b.negate;
  fits = λ op. maybe_two (a.fits op) (b.fits op);
  negates = either a.negates b.negates;
  compares = either a.compares b.compares;
  columns = either a.columns b.columns;
  forward = λ op l r. together l (λ x y. First (a.forward op x y)) (λ x y. Second (b.forward op x y)) l r;
  arithmetic_negate = each a.arithmetic_negate b.arithmetic_negate;
  backward = λ op. backward_of (a.backward op) (b.backward op);
  next = maybe a.next b.next;
  previous = maybe a.previous b.previous;
  count = either a.count b.count;
  admit = maybe a.admit b.admit;
}
