use Rattle.std.proofs.Common.{ℕ, ◌≤◌, ◌^◌, List, length, refl, subst}
use Rattle.text_session.proofs.Common.{HasTextOf, IsListedBare, closers_in, file_view}
use Rattle.source_rows.proofs.ListedTexts.{bare_listed}
use Rattle.text_session.proofs.meaning.reading.Goals as goal

pub returns-clause-means : goal.returns-clause-means
returns-clause-means c =
    let file = c.in_ok-read.read.file in
    let mended = c.in_ok-read.read.mended in
    let found = c.in_ok-read.ensures in
    record {
      read = file_view file;
      edit_is = refl;
      kept = record { text = c.args.text; mended = mended; places = file.places; use_trees = file.use_trees; problems = file.problems };
      change_is = refl;
      is_kept = record {
        text_is = refl;
        short = subst (λ (text : List ℕ). length text ≤ 2 ^ 32) c.deref.ensures found.short;
        is_read = subst (λ text. IsListedBare c.args.edition text (closers_in mended) (file_view file)) c.deref.ensures (bare_listed c.args.edition c.deref.result.now (closers_in mended) (file_view file) found.file);
        mended = subst (λ text. HasTextOf text mended) c.deref.ensures found.text;
        places = refl;
        use_trees = refl;
        problems = refl;
      };
    }
