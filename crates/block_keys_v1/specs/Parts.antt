-- What the private function answers that holds a key against the target.
use Rattle.std.specs.Prelude.{◌≡◌}
use Rattle.layout.specs.Key.{Key, common}
use Rattle.layout.specs.Cursor.{Direction}
use Rattle.layout_v1.specs.Seek.{keeps_upper}
use Rattle.block_keys_v1.specs.declared.Stand.{Stand}

pub record Stands (d : Direction) (key target : Key) (r : Stand) : Type 0 where
  pub shares : r.common ≡ common key target
  pub passes : r.keeps ≡ keeps_upper d target key
