use Rattle.std.proofs.Common.{[], arith, ◌+◌, ◌∙◌, sym, ap}
use Rattle.pcapng_read.specs.Takes.{taken_by}
use Rattle.pcapng_read.specs.View.{NgReaderView}
use Rattle.capture_load.specs.Capture.{ng_magic}
use Rattle.capture_load.proofs.Begun.{magic_fine, ng_begun}
use Rattle.capture_load.proofs.format.ng_reader.Goals as goal

pub unreachable-requires : goal.unreachable-requires
unreachable-requires c = magic_fine _ [] _ (c.in-Err.ensures.takes [] [] c.in_ok-reader.ensures.start)

pub returns-clause-stands : goal.returns-clause-stands
returns-clause-stands c =
    (ng_begun c.in_ok-reader.reader _ ng_magic _ (omega arith) (c.in-Ok.ensures.takes [] [] c.in_ok-reader.ensures.start) c.in-Ok.ensures.on).stands

pub returns-clause-counted : goal.returns-clause-counted
returns-clause-counted c =
    let begun = ng_begun c.in_ok-reader.reader _ ng_magic _ (omega arith) (c.in-Ok.ensures.takes [] [] c.in_ok-reader.ensures.start) c.in-Ok.ensures.on in
    let none = begun.count ∙ ap (λ (v : NgReaderView). v.walk.packets) c.in_ok-reader.ensures.view in
    (c.take.ensures.limit ∙ ap (λ (v : NgReaderView). v.limit) c.in_ok-reader.ensures.view, sym none, omega (arith, none))

pub returns-clause-bytes : goal.returns-clause-bytes
returns-clause-bytes c =
    let begun = ng_begun c.in_ok-reader.reader _ ng_magic _ (omega arith) (c.in-Ok.ensures.takes [] [] c.in_ok-reader.ensures.start) c.in-Ok.ensures.on in
    begun.bytes ∙ ap (λ (v : NgReaderView). taken_by v + 4) c.in_ok-reader.ensures.view
