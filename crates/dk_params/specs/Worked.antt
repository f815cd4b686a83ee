-- Two parameters files, byte for byte: evaluation 2 of a study of x1 and x2, at 0.5 and 0.5.
use Rattle.std.specs.Prelude.{ℕ, List, [], ◌∷◌, ◌++◌, codes, pos, neg_ℤ}
use Rattle.dk_num.specs.Decimal.{Decimal}
use Rattle.dk_types.specs.declared.study.ParamForm.{ParamForm}
use Rattle.dk_params.specs.Params.{params_with}

abbrev pub half : Decimal
half = record { mantissa = pos 5; exponent = neg_ℤ (pos 1) }

abbrev pub worked : ParamForm → List ℕ
worked form = params_with form (codes "x1" ∷ codes "x2" ∷ []) (codes "obj_fn" ∷ []) 2 (half ∷ half ∷ [])

abbrev pub worked_standard : List ℕ
worked_standard =
    codes "                     2 variables\n"
    ++ codes " 5.000000000000000e-01 x1\n"
    ++ codes " 5.000000000000000e-01 x2\n"
    ++ codes "                     1 functions\n"
    ++ codes "                     1 ASV_1:obj_fn\n"
    ++ codes "                     2 derivative_variables\n"
    ++ codes "                     1 DVV_1:x1\n"
    ++ codes "                     2 DVV_2:x2\n"
    ++ codes "                     0 analysis_components\n"
    ++ codes "                     2 eval_id\n"

abbrev pub worked_aprepro : List ℕ
worked_aprepro =
    codes "{ DAKOTA_VARS = 2 }\n"
    ++ codes "{ x1 = 5.000000000000000e-01 }\n"
    ++ codes "{ x2 = 5.000000000000000e-01 }\n"
    ++ codes "{ DAKOTA_FNS = 1 }\n"
    ++ codes "{ ASV_1:obj_fn = 1 }\n"
    ++ codes "{ DAKOTA_DER_VARS = 2 }\n"
    ++ codes "{ DVV_1:x1 = 1 }\n"
    ++ codes "{ DVV_2:x2 = 2 }\n"
    ++ codes "{ DAKOTA_AN_COMPS = 0 }\n"
    ++ codes "{ DAKOTA_EVAL_ID = 2 }\n"
