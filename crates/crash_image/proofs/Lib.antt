mod CrashLemmas
