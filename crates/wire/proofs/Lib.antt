mod OpenedLemmas
