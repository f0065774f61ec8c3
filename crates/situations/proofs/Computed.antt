-- All situations but E are computed as they stand.
use mathlib.Core.Path.{◌≡◌, refl}
use mathlib.Core.Bool.{true}
use mathlib.Core.List.{◌∷◌}
use Rattle.cache.specs.Runs.{start}
use Rattle.situations.specs.Steps.{passes}
use Rattle.situations.specs.Situations.{store, opens, A, B, C, D, F, G, H, I, J, K}

pub a_passes : passes (start store) (opens ∷ A) ≡ true
unfolding passes store opens A
a_passes = refl

pub b_passes : passes (start store) (opens ∷ B) ≡ true
unfolding passes store opens B
b_passes = refl

pub c_passes : passes (start store) (opens ∷ C) ≡ true
unfolding passes store opens C
c_passes = refl

pub d_passes : passes (start store) (opens ∷ D) ≡ true
unfolding passes store opens D
d_passes = refl

pub f_passes : passes (start store) (opens ∷ F) ≡ true
unfolding passes store opens F
f_passes = refl

pub g_passes : passes (start store) (opens ∷ G) ≡ true
unfolding passes store opens G
g_passes = refl

pub h_passes : passes (start store) (opens ∷ H) ≡ true
unfolding passes store opens H
h_passes = refl

pub i_passes : passes (start store) (opens ∷ I) ≡ true
unfolding passes store opens I
i_passes = refl

pub j_passes : passes (start store) (opens ∷ J) ≡ true
unfolding passes store opens J
j_passes = refl

pub k_passes : passes (start store) (opens ∷ K) ≡ true
unfolding passes store opens K
k_passes = refl
