-- Bytes that tell nothing: cursors, and builders, that are kept in arrays which differ only past the length of the key are one cursor, or one builder.
use Rattle.std.specs.Prelude.{ℕ, ◌≡◌, Bool, List, take}
use Rattle.layout.specs.Builder.{kept_builder}
use Rattle.layout.specs.Cursor.{Direction, kept_cursor}

pub kept-cursor : (d : Direction) (region at number key_len : ℕ) (array₁ array₂ : List ℕ) (mark : Bool) → take key_len array₁ ≡ take key_len array₂
    → kept_cursor d region at number key_len array₁ mark ≡ kept_cursor d region at number key_len array₂ mark
kept-cursor d region at number key_len array₁ array₂ mark agree = rw agree

pub kept-builder : (size interval used restarts rows last_len : ℕ) (array₁ array₂ : List ℕ) → take last_len array₁ ≡ take last_len array₂
    → kept_builder size interval used restarts rows last_len array₁ ≡ kept_builder size interval used restarts rows last_len array₂
kept-builder size interval used restarts rows last_len array₁ array₂ agree = rw agree
