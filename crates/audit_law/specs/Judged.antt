-- All tests that a journal is put to, in the order of its lines.
use Rattle.std.specs.Prelude.{◌++◌, List, length}
use Rattle.std.specs.List.{flat_map, range_with_len}
use Rattle.hash_rows.specs.declared.options.Options.{Options}
use Rattle.hash_rows.specs.declared.shape.Packet.{Packet}
use Rattle.push_history.specs.Journal.{Journal}
use Rattle.audit_law.specs.Tests.{Test}
use Rattle.audit_law.specs.WorkerTests.{all_given, worker_tests}
use Rattle.audit_law.specs.AnswerTests.{answer_tests}
use Rattle.audit_law.specs.LiveTests.{live_tests, missed_tests}

-- the tests of each worker, each answer and each live key, and those of how many were missed
unfoldable pub tests_of : List Packet → Options → Journal → List Test
tests_of packets o j =
    let messages = all_given packets o j in
    flat_map (worker_tests packets o j) (range_with_len 0 o.workers)
    ++ (flat_map (answer_tests o j messages) (range_with_len 0 (length j.answers))
    ++ (flat_map (live_tests o j messages) (range_with_len 0 (length j.live))
    ++ missed_tests o j messages))
