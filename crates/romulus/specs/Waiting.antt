-- What was read and not yet handed on, in a room of 8,192 bytes.
use Rattle.std.specs.Prelude.{◌≡◌, ℕ, ◌-◌, ◌≤◌, List, take, drop, replicate}
use Rattle.romulus.specs.Reading.{Rest}
use Rattle.romulus.specs.declared.ahead.Ahead.TheInside.{Inside}

-- The bytes from at to end wait: with a, b, c read and a handed on, b and c.
abbrev pub waiting : Inside → List ℕ
waiting a = take (a.end - a.at) (drop a.at a.bytes)

-- What clauses see of a room.
abbrev pub rest_of : Inside → Rest
rest_of a = record { handed_on = a.at; waiting = waiting a }

-- All else is zeros: what was handed on, and what lies behind.
pub record Cleared (a : Inside) : Type 0 where
  pub ordered : a.at ≤ a.end
  pub within : a.end ≤ 8192
  pub handed_on : take a.at a.bytes ≡ replicate a.at 0
  pub behind : drop a.end a.bytes ≡ replicate (8192 - a.end) 0
