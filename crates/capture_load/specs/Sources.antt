-- What a generated source has left.
use Rattle.std.specs.Prelude.{ℕ, List, ◌++◌, take, drop}
use Rattle.capture_load.specs.declared.generated.GenSource.{GenSource}
use Rattle.capture_load.specs.Generated.{generated_from}

-- the bytes that weren't given yet: of the part that is made, and of the records behind it
abbrev pub left_of : GenSource → List ℕ
left_of source = drop source.at (take source.end source.part) ++ generated_from source.start source.next source.ahead
