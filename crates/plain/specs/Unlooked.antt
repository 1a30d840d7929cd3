-- What C hands in and no call looks at: the path of an open end. What agrees here stands for ranges that agree, and that no call answers such ranges
-- differently is the theorem `unseen` of call_laws. The theorem here is `open_end_unlooked`.
use Rattle.std.specs.Prelude.{◌≡◌, false}
use Rattle.key_laws.specs.Agree.{PathsAgree, PathRangesAgree}
use Rattle.plain.specs.Input.{is_yes, paths_of}
use Rattle.plain.specs.declared.input.PlainPaths.{PlainPaths}

-- C's ranges of paths that differ at most in what is never looked at. Open ends may hold any two paths.
pub record PlainPathsAgree (a b : PlainPaths) : Type 0 where
  pub start : PathsAgree a.start b.start
  pub opens : is_yes a.«open» ≡ is_yes b.«open»
  pub end : is_yes a.«open» ≡ false → PathsAgree a.end b.end

-- The ranges that they stand for agree.
abbrev pub OpenEndUnlooked : Type 0
OpenEndUnlooked = (a b : PlainPaths) → PlainPathsAgree a b → PathRangesAgree (paths_of a) (paths_of b)
