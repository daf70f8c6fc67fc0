-- "Numbers with an edge", each named once.
use Rattle.std.specs.Prelude.{ℕ}

abbrev pub max_key : ℕ
max_key = 4096

abbrev pub max_value : ℕ
max_value = 65535

abbrev pub max_block : ℕ
max_block = 131072

abbrev pub max_interval : ℕ
max_interval = 1024

abbrev pub default_interval : ℕ
default_interval = 16

abbrev pub max_offset : ℕ
max_offset = 65535

abbrev pub max_restarts : ℕ
max_restarts = 5042

-- no row takes fewer bytes
abbrev pub least_row : ℕ
least_row = 12
