-- What a comparison's answer tells: the one key is below the other exactly when it is `less`, and they are the same exactly when it is `equal`.
use Rattle.std.specs.Prelude.{◌≡◌, refl, Bool, true, false, cond, not}
use Rattle.layout.specs.Key.{Key, below, same, less, equal, greater, compare}
use Rattle.layout.specs.Laws.Compare.{is_equal, is_less}

pub compare-less-below : (a b : Key) → is_less (compare a b) ≡ below a b
unfolding compare
compare-less-below a b = go (below a b) (below b a)
  where
    go : (p q : Bool) → is_less (cond p less (cond q greater equal)) ≡ p
    go true q = refl
    go false true = refl
    go false false = refl

pub compare-equal-same : (a b : Key) → is_equal (compare a b) ≡ same a b
unfolding compare
compare-equal-same a b = go (below a b) (below b a)
  where
    go : (p q : Bool) → is_equal (cond p less (cond q greater equal)) ≡ cond p false (not q)
    go true q = refl
    go false true = refl
    go false false = refl
