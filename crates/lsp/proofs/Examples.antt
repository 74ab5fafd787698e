-- What the definition of mended texts gives: a case each.
use Rattle.std.proofs.Common.{◌≡◌, refl, codes}
use Rattle.lsp.specs.Surrogates.{surrogates_mended}

plain : surrogates_mended (codes "{\"a\":\"\\u00e9\\n\"}") ≡ codes "{\"a\":\"\\u00e9\\n\"}"
plain = refl

pair : surrogates_mended (codes "\"\\ud83E\\uDd80\"") ≡ codes "\"\\ud83E\\uDd80\""
pair = refl

lone_first : surrogates_mended (codes "\"\\ud800a\\u0041\"") ≡ codes "\"\\ufffda\\u0041\""
lone_first = refl

lone_second : surrogates_mended (codes "\"\\uDFFF\\ud83e\"") ≡ codes "\"\\ufffd\\ufffd\""
lone_second = refl

-- the second surrogate of three ends no pair, and begins one
two_firsts : surrogates_mended (codes "\"\\uDBff\\ud83e\\udd80\"") ≡ codes "\"\\ufffd\\ud83e\\udd80\""
two_firsts = refl

-- what stands behind a pair is alone
two_seconds : surrogates_mended (codes "\"\\ud83e\\udd80\\udd80\"") ≡ codes "\"\\ud83e\\udd80\\ufffd\""
two_seconds = refl

-- the letter `u` behind an escaped backslash is no escape
escaped : surrogates_mended (codes "\"\\\\ud800\\\\\\ud800\"") ≡ codes "\"\\\\ud800\\\\\\ufffd\""
escaped = refl

cut_off : surrogates_mended (codes "\"\\ud800\\udc0") ≡ codes "\"\\ufffd\\udc0"
cut_off = refl

at_end : surrogates_mended (codes "\"\\") ≡ codes "\"\\"
at_end = refl

no_digits : surrogates_mended (codes "\"\\ud8g0\\u\"") ≡ codes "\"\\ud8g0\\u\""
no_digits = refl
