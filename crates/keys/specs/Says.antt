-- What each case of an answer says. No two cases say the same.
use Rattle.std.specs.Prelude.{◌≡◌, refl}
use Rattle.std.specs.Ordering.{is_lt, is_eq}
use Rattle.std.proofs.Common.{ap, sym, ◌∙◌}
use Rattle.layout.specs.Key.{less, equal, greater, Ordering as Order}
use Rattle.layout.specs.Laws.Compare.{is_less, is_equal}
use Rattle.std.specs.declared.cmp.Ordering.{Ordering}
use Rattle.std.specs.declared.cmp.Ordering.TheVariants.{Less, Equal, Greater}

abbrev pub says_ordering : Ordering → Order
says_ordering Less = less
says_ordering Equal = equal
says_ordering Greater = greater

-- ---- one to one

pub says_ordering-one : (a b : Ordering) → says_ordering a ≡ says_ordering b → a ≡ b
says_ordering-one a b e = sym (back a) ∙ ap named e ∙ back b
  where
    named : Order → Ordering
    named less = Less
    named equal = Equal
    named greater = Greater

    back : (a : Ordering) → named (says_ordering a) ≡ a
    back Less = refl
    back Equal = refl
    back Greater = refl

-- ---- what std's tests of an order ask of what it says

pub less-said : (a : Ordering) → is_lt a ≡ is_less (says_ordering a)
less-said Less = refl
less-said Equal = refl
less-said Greater = refl

pub equal-said : (a : Ordering) → is_eq a ≡ is_equal (says_ordering a)
equal-said Less = refl
equal-said Equal = refl
equal-said Greater = refl
