-- How long a list may get.
use Rattle.std.specs.Prelude.{ℕ}

-- the most places that a list uses (`MAX_PLACES`)
abbrev pub limit : ℕ
limit = 1048576
