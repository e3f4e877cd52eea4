-- Two journals with the same options and the same text tell the same.
use Rattle.std.proofs.Common.{◌≡◌, ◌∙◌, ◌<◌, ◌≤◌, ◌^◌, ◌+◌, ◌==◌, ℕ, suc, List, [], ◌∷◌, ◌++◌, Bool, true, false, if◌then◌else◌, refl, sym, ap, ap₂, arith, append_assoc, codes, drop, get_or, length, map}
use Rattle.std.specs.Prelude.{All}
use Rattle.std.specs.Fmt.{decimal}
use Rattle.std.specs.List.{enumerate_from, flat_map, zip}
use Rattle.std.proofs.lemmas.List.{append_cancel_left}
use Rattle.std.proofs.lemmas.List.Elements.{All-nil, All-cons, All-head, All-tail}
use Rattle.packet_key.specs.declared.key.FlowKey.{FlowKey}
use Rattle.packet_key.specs.KeyText.{IsKey}
use Rattle.hash_rows.specs.declared.answer.Answer.{Answer}
use Rattle.hash_rows.specs.declared.options.Options.{Options}
use Rattle.hash_rows.specs.Marks.{marked, marked_from}
use Rattle.push_history.specs.Answers.{AnswerParts, parts_of}
use Rattle.push_history.specs.Journal.{journal_of_lists, with_journal}
use Rattle.push_history.specs.declared.run_lists.RunLists.{RunLists}
use Rattle.octo_text.specs.Content.{AreComplete, IsAnswerFor}
use Rattle.octo_text.specs.JournalText.{answer_line, journal_text, live_lines, run_line, spaced, spaced_signed, terms_lines, worker_line, worker_lines}
use Rattle.octo_text.specs.Lines.{count_line, key_line, words_line}
use Rattle.octo_text.specs.Runs.{joined, numbers_in, runs_of}
use Rattle.octo_text.proofs.MaximalRuns.{maximal_runs}
use Rattle.journal_whole.proofs.Cuts.{number_cut}
use Rattle.journal_whole.proofs.OneLine.{Fits, answer_cut, key_cut, missed_cut, run_cut, worker_cut}
use Rattle.rounds_audit.specs.Ranges.{AreInRange, IsAnswerInRange}

-- the first byte of a text
abbrev first : List ℕ → ℕ
first text = get_or text 0 0

-- the ends of runs are among the numbers
abbrev IsBelow : ℕ → ℕ × ℕ → Type 0
IsBelow most run = (run.0 < most) × (run.1 < most)

joined_below : (most n : ℕ) (runs : List (ℕ × ℕ)) → n < most → All (IsBelow most) runs → All (IsBelow most) (joined n runs)
joined_below most n [] lt all = All-cons (IsBelow most) (n, n) [] (lt, lt) (All-nil (IsBelow most))
joined_below most n (run ∷ runs) lt all =
    let here = All-head (IsBelow most) run runs all in
    let behind = All-tail (IsBelow most) run runs all in
    elim (run.0 == n + 1) as (λ (b : Bool). All (IsBelow most) (if b then (n, run.1) ∷ runs else (n, n) ∷ run ∷ runs)) [
      | true ↦ All-cons (IsBelow most) (n, run.1) runs (lt, here.1) behind
      | false ↦ All-cons (IsBelow most) (n, n) (run ∷ runs) (lt, lt) all
    ]

runs_below : (most : ℕ) (ns : List ℕ) → All (λ n. n < most) ns → All (IsBelow most) (runs_of ns)
runs_below most [] all = All-nil (IsBelow most)
runs_below most (n ∷ ns) all = joined_below most n (runs_of ns) (All-head (λ k. k < most) n ns all) (runs_below most ns (All-tail (λ k. k < most) n ns all))

marked_below : (bits : List Bool) (place : ℕ) → All (λ n. n < place + length bits) (marked_from place bits)
marked_below [] place = All-nil (λ n. n < place + 0)
marked_below (true ∷ bits) place =
    All-cons (λ n. n < place + suc (length bits)) place (marked_from (place + 1) bits) (omega arith) (λ k d lt. let less = marked_below bits (place + 1) k d lt in omega (arith, less))
marked_below (false ∷ bits) place = λ k d lt. let less = marked_below bits (place + 1) k d lt in omega (arith, less)

runs_fit : (bits : List Bool) → length bits < 2 ^ 32 → All (IsBelow (2 ^ 64)) (runs_of (marked bits))
runs_fit bits few = runs_below (2 ^ 64) (marked bits) (λ k d lt. let less = marked_below bits 0 k d lt in omega (arith, less, few))

-- the runs of refused updates of a worker, behind which no other one stands
run_first : (w : ℕ) (run : ℕ × ℕ) (x : List ℕ) → first (run_line w run ++ x) ≡ 114
unfolding run_line
run_first w run x = refl

runs_cut : (w : ℕ) (xs ys : List (ℕ × ℕ)) (x y : List ℕ) → All (IsBelow (2 ^ 64)) xs → All (IsBelow (2 ^ 64)) ys → (first x ≡ 114 → ⊥) → (first y ≡ 114 → ⊥)
    → flat_map (run_line w) xs ++ x ≡ flat_map (run_line w) ys ++ y → (xs ≡ ys) × (x ≡ y)
runs_cut w [] [] x y fit₁ fit₂ none₁ none₂ is = (refl, is)
runs_cut w [] (s ∷ ys) x y fit₁ fit₂ none₁ none₂ is =
    absurd (none₁ (ap first (is ∙ append_assoc (run_line w s) (flat_map (run_line w) ys) y) ∙ run_first w s (flat_map (run_line w) ys ++ y)))
runs_cut w (r ∷ xs) [] x y fit₁ fit₂ none₁ none₂ is =
    absurd (none₂ (ap first (sym is ∙ append_assoc (run_line w r) (flat_map (run_line w) xs) x) ∙ run_first w r (flat_map (run_line w) xs ++ x)))
runs_cut w (r ∷ xs) (s ∷ ys) x y fit₁ fit₂ none₁ none₂ is =
    let one = All-head (IsBelow (2 ^ 64)) r xs fit₁ in
    let two = All-head (IsBelow (2 ^ 64)) s ys fit₂ in
    let cut = run_cut w r.0 r.1 s.0 s.1 (flat_map (run_line w) xs ++ x) (flat_map (run_line w) ys ++ y) one.0 one.1 two.0 two.1
    (sym (append_assoc (run_line w r) (flat_map (run_line w) xs) x) ∙ is ∙ append_assoc (run_line w s) (flat_map (run_line w) ys) y) in
    let rest = runs_cut w xs ys x y (All-tail (IsBelow (2 ^ 64)) r xs fit₁) (All-tail (IsBelow (2 ^ 64)) s ys fit₂) none₁ none₂ cut.2 in
    let same : r ≡ s = ap₂ (λ (a b : ℕ). (a, b)) cut.0 cut.1 in
    (ap₂ (λ (z : ℕ × ℕ) (zs : List (ℕ × ℕ)). z ∷ zs) same rest.0, rest.1)

-- a worker with its runs
worker_first : (w : ℕ × (ℕ × List ℕ)) (x : List ℕ) → first (worker_lines w ++ x) ≡ 119
unfolding worker_lines worker_line
worker_first w x = refl

worker_grouped : (w p : ℕ) (ns : List ℕ) (x : List ℕ) → worker_lines (w, (p, ns)) ++ x ≡ worker_line w p (length ns) ++ (flat_map (run_line w) (runs_of ns) ++ x)
unfolding worker_lines
worker_grouped w p ns x = append_assoc (worker_line w p (length ns)) (flat_map (run_line w) (runs_of ns)) x

marks_len : (bits : List Bool) → length (marked bits) ≤ length bits
marks_len bits = marks_from bits 0
  where
    marks_from : (bits : List Bool) (place : ℕ) → length (marked_from place bits) ≤ length bits
    marks_from [] place = omega arith
    marks_from (true ∷ bits) place = let less = marks_from bits (place + 1) in omega (arith, less)
    marks_from (false ∷ bits) place = let less = marks_from bits (place + 1) in omega (arith, less)

one_worker_cut : (w p q : ℕ) (bits more : List Bool) (x y : List ℕ) → p < 2 ^ 64 → q < 2 ^ 64 → length bits < 2 ^ 32 → length more < 2 ^ 32 → (first x ≡ 114 → ⊥) → (first y ≡ 114 → ⊥)
    → worker_lines (w, (p, marked bits)) ++ x ≡ worker_lines (w, (q, marked more)) ++ y → (p ≡ q) × (marked bits ≡ marked more) × (x ≡ y)
one_worker_cut w p q bits more x y fit₁ fit₂ few₁ few₂ none₁ none₂ is =
    let cut = worker_cut w p (length (marked bits)) q (length (marked more)) (flat_map (run_line w) (runs_of (marked bits)) ++ x) (flat_map (run_line w) (runs_of (marked more)) ++ y) fit₁
    (let less = marks_len bits in omega (arith, less, few₁)) fit₂ (let less = marks_len more in omega (arith, less, few₂))
    (sym (worker_grouped w p (marked bits) x) ∙ is ∙ worker_grouped w q (marked more) y) in
    let runs = runs_cut w (runs_of (marked bits)) (runs_of (marked more)) x y (runs_fit bits few₁) (runs_fit more few₂) none₁ none₂ cut.2 in
    (cut.0, sym (maximal_runs bits).all ∙ ap (flat_map numbers_in) runs.0 ∙ (maximal_runs more).all, runs.1)

-- all workers
abbrev workers_text : ℕ → List ℕ → List (List Bool) → List ℕ
workers_text w pushes rows = flat_map worker_lines (enumerate_from w (zip pushes (map marked rows)))

workers_first : (w : ℕ) (pushes : List ℕ) (rows : List (List Bool)) (x : List ℕ) → (first x ≡ 114 → ⊥) → first (workers_text w pushes rows ++ x) ≡ 114 → ⊥
workers_first w [] rows x none at = none at
workers_first w (p ∷ pushes) [] x none at = none at
workers_first w (p ∷ pushes) (row ∷ rows) x none at =
    let its = sym (worker_first (w, (p, marked row)) (workers_text (w + 1) pushes rows ++ x)) ∙ ap first (sym (append_assoc (worker_lines (w, (p, marked row))) (workers_text (w + 1) pushes rows) x)) ∙ at in
    omega (arith, its)

workers_cut : (w : ℕ) (ps qs : List ℕ) (rs ss : List (List Bool)) (x y : List ℕ) → length ps ≡ length qs → length rs ≡ length ps → length ss ≡ length qs → All (λ n. n < 2 ^ 64) ps → All (λ n. n < 2 ^ 64) qs
    → All (λ bits. length bits < 2 ^ 32) rs → All (λ bits. length bits < 2 ^ 32) ss → (first x ≡ 114 → ⊥) → (first y ≡ 114 → ⊥)
    → workers_text w ps rs ++ x ≡ workers_text w qs ss ++ y → (ps ≡ qs) × (map marked rs ≡ map marked ss) × (x ≡ y)
workers_cut w [] [] [] [] x y same long₁ long₂ fit₁ fit₂ few₁ few₂ none₁ none₂ is = (refl, refl, is)
workers_cut w [] [] [] (s ∷ ss) x y same long₁ long₂ fit₁ fit₂ few₁ few₂ none₁ none₂ is = absurd (omega (arith, long₂))
workers_cut w [] [] (r ∷ rs) ss x y same long₁ long₂ fit₁ fit₂ few₁ few₂ none₁ none₂ is = absurd (omega (arith, long₁))
workers_cut w [] (q ∷ qs) rs ss x y same long₁ long₂ fit₁ fit₂ few₁ few₂ none₁ none₂ is = absurd (omega (arith, same))
workers_cut w (p ∷ ps) [] rs ss x y same long₁ long₂ fit₁ fit₂ few₁ few₂ none₁ none₂ is = absurd (omega (arith, same))
workers_cut w (p ∷ ps) (q ∷ qs) [] ss x y same long₁ long₂ fit₁ fit₂ few₁ few₂ none₁ none₂ is = absurd (omega (arith, long₁))
workers_cut w (p ∷ ps) (q ∷ qs) (r ∷ rs) [] x y same long₁ long₂ fit₁ fit₂ few₁ few₂ none₁ none₂ is = absurd (omega (arith, long₂))
workers_cut w (p ∷ ps) (q ∷ qs) (r ∷ rs) (s ∷ ss) x y same long₁ long₂ fit₁ fit₂ few₁ few₂ none₁ none₂ is =
    let cut = one_worker_cut w p q r s (workers_text (w + 1) ps rs ++ x) (workers_text (w + 1) qs ss ++ y) (All-head (λ n. n < 2 ^ 64) p ps fit₁) (All-head (λ n. n < 2 ^ 64) q qs fit₂)
    (All-head (λ bits. length bits < 2 ^ 32) r rs few₁) (All-head (λ bits. length bits < 2 ^ 32) s ss few₂) (workers_first (w + 1) ps rs x none₁) (workers_first (w + 1) qs ss y none₂)
    (sym (append_assoc (worker_lines (w, (p, marked r))) (workers_text (w + 1) ps rs) x) ∙ is ∙ append_assoc (worker_lines (w, (q, marked s))) (workers_text (w + 1) qs ss) y) in
    let rest = workers_cut (w + 1) ps qs rs ss x y (omega (arith, same)) (omega (arith, long₁)) (omega (arith, long₂)) (All-tail (λ n. n < 2 ^ 64) p ps fit₁) (All-tail (λ n. n < 2 ^ 64) q qs fit₂)
    (All-tail (λ bits. length bits < 2 ^ 32) r rs few₁) (All-tail (λ bits. length bits < 2 ^ 32) s ss few₂) none₁ none₂ cut.2 in
    (cc (cut.0, rest.0), cc (cut.1, rest.1), rest.2)

-- an answer
abbrev behind_number : AnswerParts → List ℕ → List ℕ
behind_number a x =
    codes " folded " ++ (decimal a.folded ++ (codes " front" ++ (flat_map spaced a.front ++ (codes " shown" ++ (flat_map spaced_signed a.shown ++ (codes "\n" ++ x))))))

answer_parts : (a : AnswerParts) (x : List ℕ) → answer_line a ++ x ≡ codes "answer " ++ (decimal a.reader ++ (codes " " ++ (decimal a.number ++ behind_number a x)))
unfolding answer_line
answer_parts a x = simp append_assoc refl

answer_first : (a : AnswerParts) (x : List ℕ) → first (answer_line a ++ x) ≡ 97
unfolding answer_line
answer_first a x = refl

fits : (a : Answer) → IsAnswerInRange a → Fits (parts_of a)
unfolding parts_of
fits a range = record { folded = range.folded; front = range.front; shown = range.shown }

one_answer_cut : (o : Options) (a b : Answer) (x y : List ℕ) → IsAnswerFor o a → IsAnswerFor o b → IsAnswerInRange a → IsAnswerInRange b
    → answer_line (parts_of a) ++ x ≡ answer_line (parts_of b) ++ y → (parts_of a ≡ parts_of b) × (x ≡ y)
unfolding parts_of
one_answer_cut o a b x y for₁ for₂ range₁ range₂ is =
    let reader = number_cut a.reader b.reader (codes " " ++ (decimal a.number ++ behind_number (parts_of a) x)) (codes " " ++ (decimal b.number ++ behind_number (parts_of b) y))
    range₁.reader range₂.reader refl refl (ap (drop 7) (sym (answer_parts (parts_of a) x) ∙ is ∙ answer_parts (parts_of b) y)) in
    let number = number_cut a.number b.number (behind_number (parts_of a) x) (behind_number (parts_of b) y) range₁.number range₂.number refl refl (ap (drop 1) reader.1) in
    answer_cut (parts_of a) (parts_of b) x y
    (record { reader = reader.0; number = number.0; front = for₁.front ∙ sym for₂.front; shown = for₁.shown ∙ sym for₂.shown }) (fits a range₁) (fits b range₂) is

-- all answers
abbrev answers_text : List Answer → List ℕ
answers_text answers = flat_map answer_line (map parts_of answers)

answers_cut : (o : Options) (ms bs : List Answer) (x y : List ℕ) → All (IsAnswerFor o) ms → All (IsAnswerFor o) bs → All IsAnswerInRange ms → All IsAnswerInRange bs
    → (first x ≡ 97 → ⊥) → (first y ≡ 97 → ⊥) → answers_text ms ++ x ≡ answers_text bs ++ y → (map parts_of ms ≡ map parts_of bs) × (x ≡ y)
answers_cut o [] [] x y for₁ for₂ range₁ range₂ none₁ none₂ is = (refl, is)
answers_cut o [] (b ∷ bs) x y for₁ for₂ range₁ range₂ none₁ none₂ is =
    absurd (none₁ (ap first (is ∙ append_assoc (answer_line (parts_of b)) (answers_text bs) y) ∙ answer_first (parts_of b) (answers_text bs ++ y)))
answers_cut o (a ∷ ms) [] x y for₁ for₂ range₁ range₂ none₁ none₂ is =
    absurd (none₂ (ap first (sym is ∙ append_assoc (answer_line (parts_of a)) (answers_text ms) x) ∙ answer_first (parts_of a) (answers_text ms ++ x)))
answers_cut o (a ∷ ms) (b ∷ bs) x y for₁ for₂ range₁ range₂ none₁ none₂ is =
    let cut = one_answer_cut o a b (answers_text ms ++ x) (answers_text bs ++ y) (All-head (IsAnswerFor o) a ms for₁) (All-head (IsAnswerFor o) b bs for₂)
    (All-head IsAnswerInRange a ms range₁) (All-head IsAnswerInRange b bs range₂)
    (sym (append_assoc (answer_line (parts_of a)) (answers_text ms) x) ∙ is ∙ append_assoc (answer_line (parts_of b)) (answers_text bs) y) in
    let rest = answers_cut o ms bs x y (All-tail (IsAnswerFor o) a ms for₁) (All-tail (IsAnswerFor o) b bs for₂) (All-tail IsAnswerInRange a ms range₁) (All-tail IsAnswerInRange b bs range₂) none₁ none₂ cut.1 in
    (cc (cut.0, rest.0), rest.1)

-- the live keys
key_first : (k : FlowKey) (x : List ℕ) → first (key_line (codes "live") k ++ x) ≡ 108
unfolding key_line
key_first k x = refl

keys_cut : (ks ls : List FlowKey) (x y : List ℕ) → All IsKey ks → All IsKey ls → (first x ≡ 108 → ⊥) → (first y ≡ 108 → ⊥)
    → flat_map (key_line (codes "live")) ks ++ x ≡ flat_map (key_line (codes "live")) ls ++ y → (ks ≡ ls) × (x ≡ y)
keys_cut [] [] x y all₁ all₂ none₁ none₂ is = (refl, is)
keys_cut [] (l ∷ ls) x y all₁ all₂ none₁ none₂ is =
    absurd (none₁ (ap first (is ∙ append_assoc (key_line (codes "live") l) (flat_map (key_line (codes "live")) ls) y) ∙ key_first l (flat_map (key_line (codes "live")) ls ++ y)))
keys_cut (k ∷ ks) [] x y all₁ all₂ none₁ none₂ is =
    absurd (none₂ (ap first (sym is ∙ append_assoc (key_line (codes "live") k) (flat_map (key_line (codes "live")) ks) x) ∙ key_first k (flat_map (key_line (codes "live")) ks ++ x)))
keys_cut (k ∷ ks) (l ∷ ls) x y all₁ all₂ none₁ none₂ is =
    let cut = key_cut (codes "live") k l (flat_map (key_line (codes "live")) ks ++ x) (flat_map (key_line (codes "live")) ls ++ y) (All-head IsKey k ks all₁) (All-head IsKey l ls all₂)
    (sym (append_assoc (key_line (codes "live") k) (flat_map (key_line (codes "live")) ks) x) ∙ is ∙ append_assoc (key_line (codes "live") l) (flat_map (key_line (codes "live")) ls) y) in
    let rest = keys_cut ks ls x y (All-tail IsKey k ks all₁) (All-tail IsKey l ls all₂) none₁ none₂ cut.1 in
    (cc (cut.0, rest.0), rest.1)

-- behind the answers, and behind the live keys
abbrev end_text : ℕ → List ℕ
end_text missed = count_line (codes "missed") missed ++ words_line (codes "end")

abbrev live_text : List FlowKey → ℕ → List ℕ
live_text live missed = flat_map (key_line (codes "live")) live ++ end_text missed

end_first : (missed : ℕ) → first (end_text missed) ≡ 109
unfolding count_line
end_first missed = refl

live_first : (live : List FlowKey) (missed : ℕ) → 108 ≤ first (live_text live missed)
live_first [] missed = let is = end_first missed in omega (arith, is)
live_first (k ∷ live) missed =
    let is = ap first (append_assoc (key_line (codes "live") k) (flat_map (key_line (codes "live")) live) (end_text missed)) ∙ key_first k (live_text live missed) in
    omega (arith, is)

live_last : (live : List FlowKey) (missed : ℕ) → first (live_text live missed) ≤ 109
live_last [] missed = let is = end_first missed in omega (arith, is)
live_last (k ∷ live) missed =
    let is = ap first (append_assoc (key_line (codes "live") k) (flat_map (key_line (codes "live")) live) (end_text missed)) ∙ key_first k (live_text live missed) in
    omega (arith, is)

answers_first : (answers : List Answer) (live : List FlowKey) (missed : ℕ) → first (answers_text answers ++ live_text live missed) ≡ 114 → ⊥
answers_first [] live missed at = let less = live_last live missed in omega (arith, less, at)
answers_first (a ∷ answers) live missed at =
    let is = sym (answer_first (parts_of a) (answers_text answers ++ live_text live missed)) ∙ ap first (sym (append_assoc (answer_line (parts_of a)) (answers_text answers) (live_text live missed))) ∙ at in
    omega (arith, is)

-- the whole text
abbrev lists_text : RunLists → List ℕ
lists_text lists = workers_text 0 lists.pushes.items lists.refused.items ++ (answers_text lists.answers.items ++ live_text lists.live.items lists.missed)

grouped : (o : Options) (lists : RunLists) → journal_text (journal_of_lists o lists) ≡ words_line (codes "octosketch journal 1") ++ (terms_lines (with_journal o) ++ lists_text lists)
unfolding journal_text live_lines
grouped o lists = simp append_assoc refl

same_journal : (o : Options) (a b : RunLists) → map marked a.refused.items ≡ map marked b.refused.items → a.pushes.items ≡ b.pushes.items
    → map parts_of a.answers.items ≡ map parts_of b.answers.items → a.live.items ≡ b.live.items → a.missed ≡ b.missed → journal_of_lists o a ≡ journal_of_lists o b
same_journal o a b refused pushes answers live missed = cc (refused, pushes, answers, live, missed)

pub one_content : (o : Options) (a b : RunLists) → AreComplete o a → AreComplete o b → AreInRange a → AreInRange b
    → journal_text (journal_of_lists o a) ≡ journal_text (journal_of_lists o b) → journal_of_lists o a ≡ journal_of_lists o b
one_content o a b whole₁ whole₂ range₁ range₂ is =
    let opened = append_cancel_left (words_line (codes "octosketch journal 1")) (terms_lines (with_journal o) ++ lists_text a) (terms_lines (with_journal o) ++ lists_text b)
    (sym (grouped o a) ∙ is ∙ grouped o b) in
    let lists = append_cancel_left (terms_lines (with_journal o)) (lists_text a) (lists_text b) opened in
    let workers = workers_cut 0 a.pushes.items b.pushes.items a.refused.items b.refused.items (answers_text a.answers.items ++ live_text a.live.items a.missed) (answers_text b.answers.items ++ live_text b.live.items b.missed)
    (whole₁.pushes_len ∙ sym whole₂.pushes_len) (whole₁.refused_len ∙ sym whole₁.pushes_len) (whole₂.refused_len ∙ sym whole₂.pushes_len) range₁.pushes range₂.pushes range₁.refused range₂.refused
    (answers_first a.answers.items a.live.items a.missed) (answers_first b.answers.items b.live.items b.missed) lists in
    let low₁ = live_first a.live.items a.missed in
    let low₂ = live_first b.live.items b.missed in
    let answers = answers_cut o a.answers.items b.answers.items (live_text a.live.items a.missed) (live_text b.live.items b.missed) whole₁.answers_fit whole₂.answers_fit range₁.answers range₂.answers
    (λ at. omega (arith, at, low₁)) (λ at. omega (arith, at, low₂)) workers.2 in
    let end₁ = end_first a.missed in
    let end₂ = end_first b.missed in
    let live = keys_cut a.live.items b.live.items (end_text a.missed) (end_text b.missed) range₁.live range₂.live (λ at. omega (arith, at, end₁)) (λ at. omega (arith, at, end₂)) answers.1 in
    let missed = missed_cut a.missed b.missed (words_line (codes "end")) (words_line (codes "end")) range₁.missed range₂.missed live.1 in
    same_journal o a b workers.1 workers.0 answers.0 live.0 missed.0
